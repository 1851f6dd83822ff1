-- How many splits the lists of a run have.
use Rattle.std.proofs.Common.{◌≡◌, ℕ, ◌≤◌, max, List, [], ◌∷◌, ◌++◌, length, sym, subst, arith, length-append}
use Rattle.pool_model.specs.Network.{Net}
use Rattle.row_model.specs.Entries as entries
use Rattle.row_model.specs.Entries.{root_proof, split_of, improve, Searched, start, after, made_from, made_by}
use Rattle.search_run.specs.Steps.{IsDue, IsStep}
use Rattle.search_run.specs.declared.orders.Orders.{Orders}
use Rattle.search_run.proofs.Growing.{leaf-split}
use Rattle.recorded_run.specs.Recorded.{BeginsWith, HasFewSplits}
use Rattle.recorded_run.proofs.Recording.{made-more}

-- ---- fronts of a list

-- an entry takes no split away
splits-after : (s : Searched) (e : entries.Entry) → length s.tree.splits ≤ length (after s e).tree.splits
splits-after s (root_proof proof) = omega arith
splits-after s (split_of split left right) = omega (arith, length-append s.tree.splits (split ∷ []))
splits-after s (improve plan) = omega arith

splits-later : (s : Searched) (list : List entries.Entry) → length s.tree.splits ≤ length (made_from s list).tree.splits
splits-later s [] = omega arith
splits-later s (e ∷ list) = omega (arith, splits-after s e, splits-later (after s e) list)

splits-front : (s : Searched) (front rest : List entries.Entry) → length (made_from s front).tree.splits ≤ length (made_from s (front ++ rest)).tree.splits
splits-front s [] rest = splits-later s rest
splits-front s (e ∷ front) rest = splits-front (after s e) front rest

-- a front of a list has no more splits
pub few-front : (o : Orders) (first last list : List entries.Entry) → HasFewSplits o first last → BeginsWith last list → HasFewSplits o first list
few-front o first last list few (rest, is) =
    let more = subst (λ (l : List entries.Entry). length (made_by list).tree.splits ≤ length (made_by l).tree.splits) (sym is) (splits-front start list rest) in
    omega (arith, few, more)

pub few-same : (o : Orders) (list : List entries.Entry) → HasFewSplits o list list
few-same o list = omega arith

-- ---- one entry more

-- a split is due only where there are fewer than are asked for
splits-due : (n : Net) (o : Orders) (s : Searched) (e : entries.Entry) (begun : ℕ) → IsDue n o s e → length s.tree.splits ≤ max o.nodes begun → length (after s e).tree.splits ≤ max o.nodes begun
splits-due n o s (root_proof proof) begun due few = few
splits-due n o s (split_of split left right) begun due few = omega (arith, (leaf-split n o s split left right due.1).few, length-append s.tree.splits (split ∷ []))
splits-due n o s (improve plan) begun due few = few

-- what is due leaves few splits
pub few-more : (n : Net) (o : Orders) (first last : List entries.Entry) (s : Searched) (e : entries.Entry) → IsStep n o s e → s ≡ made_by last → HasFewSplits o first last
    → HasFewSplits o first (last ++ e ∷ [])
few-more n o first last s e step made few =
    let due = subst (λ (t : Searched). IsDue n o t e) made step.due in
    subst (λ (t : Searched). length t.tree.splits ≤ max o.nodes (length (made_by first).tree.splits)) (sym (made-more start last e))
    (splits-due n o (made_by last) e (length (made_by first).tree.splits) due few)
