use Rattle.std.proofs.Common.{eqb, refl, true}
use Rattle.std.proofs.lemmas.Bool.Decides.{Decides-eqb}
use Rattle.std.proofs.lemmas.List.Elements.{Contains-from_at, contains_decides}
use Rattle.shelf_calls.proofs.mem_shelf.MemShelf.is_told.Goals as goal

pub returns-clause-told : goal.returns-clause-told
returns-clause-told c h = Contains-from_at _ _ ((contains_decides eqb Decides-eqb _ _ true (rw (c.deref.ensures.value, h) at c.contains.ensures.cases)).0 refl)
