-- What stays so over the steps of a run.
use Rattle.std.proofs.Common.{inl, inr, List, [], ◌∷◌, refl}
use Rattle.pool_model.specs.Network.{Net}
use Rattle.row_model.specs.Entries.{Entry, root_proof, split_of, improve, Searched, IsSearched, after, made_from}
use Rattle.row_model.proofs.EntryLaw.{searched-kept}
use Rattle.search_core.specs.Cases.{IsRootOpen}
use Rattle.search_run.specs.Steps.{IsStep}
use Rattle.search_run.specs.Runs.{AreSteps}
use Rattle.search_run.specs.Found.{IsGrown}
use Rattle.search_run.specs.declared.orders.Orders.{Orders}
use Rattle.search_run.proofs.Growing.{grown-start, grown-root, grown-split, leaf-split}
use Rattle.search_run.proofs.Rooting.{IsRootDone, root-proved, done-split}

pub record IsSound (n : Net) (o : Orders) (begun s : Searched) : Type 0 where
  pub searched : IsSearched n s
  pub grown : IsGrown n o begun.tree s.tree
  pub rooted : IsRootOpen begun → IsRootDone n s

pub sound-start : (n : Net) (o : Orders) (s : Searched) → IsSearched n s → IsSound n o s s
sound-start n o s is = record { searched = is; grown = grown-start n o s.tree; rooted = λ opens. inl opens }

pub sound-step : (n : Net) (o : Orders) (begun s : Searched) (e : Entry) → IsSound n o begun s → IsStep n o s e → IsSound n o begun (after s e)
sound-step n o begun s (improve plan) so step = record {
  searched = searched-kept n s (improve plan) so.searched step.in_order;
  grown = so.grown;
  rooted = so.rooted;
}
sound-step n o begun s (root_proof proof) so step = record {
  searched = searched-kept n s (root_proof proof) so.searched step.in_order;
  grown = grown-root n o begun.tree s proof so.searched.tree step.in_order.unproved step.in_order.uncut (step.due.1.given.in_form proof refl) so.grown;
  rooted = λ opens. inr (root-proved n o.form s proof so.searched.tree step.due.1);
}
sound-step n o begun s (split_of split left right) so step = record {
  searched = searched-kept n s (split_of split left right) so.searched step.in_order;
  grown = grown-split n o s split left right so.searched.tree (leaf-split n o s split left right step.due.1) step.best begun.tree so.grown;
  rooted = λ opens. done-split n o s split left right so.searched.tree (leaf-split n o s split left right step.due.1) step.due.0.proved (so.rooted opens);
}

pub sound-steps : (n : Net) (o : Orders) (begun s : Searched) (es : List Entry) → IsSound n o begun s → AreSteps n o s es → IsSound n o begun (made_from s es)
sound-steps n o begun s [] so are = so
sound-steps n o begun s (e ∷ es) so are = sound-steps n o begun (after s e) es (sound-step n o begun s e so are.0) are.1
