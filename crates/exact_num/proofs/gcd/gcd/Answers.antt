use Rattle.std.proofs.lemmas.Nat.Gcd.{IsGcd-from_mod, IsGcd-swap}
use Rattle.exact_num.proofs.gcd.gcd.Goals as goal

pub returns-then-b-rest : goal.returns-then-b-rest
returns-then-b-rest c = IsGcd-from_mod _ _ _ c.halved_gcd.ensures

pub returns-else-b-rest : goal.returns-else-b-rest
returns-else-b-rest c = IsGcd-from_mod _ _ _ (IsGcd-swap _ _ _ c.halved_gcd-else-b-rest.ensures)
