-- What comes next is a step of the run, or its end; and steps one after another.
use Rattle.std.proofs.Common.{◌≡◌, inl, inr, ◌<◌, ℕ, Bool, List, [], ◌∷◌, ◌++◌, length, Option, Some, None, option_map, ℤ, refl, sym, ap, subst, ◌∙◌}
use denote.Ref.{Bor}
use Rattle.pool_model.specs.Network.{Net}
use Rattle.row_model.specs.Boxes.{Box, left_of, right_of}
use Rattle.row_model.specs.Multipliers.{Proof, bound, shown_by}
use Rattle.row_model.specs.Trees.{box_of, tree_bound, raised}
use Rattle.row_model.specs.Entries as entries
use Rattle.row_model.specs.Entries.{Searched, IsEntryInOrder, after, made_from}
use Rattle.box_space.specs.Views.{shown_proof, shown_split}
use Rattle.box_space.specs.declared.coordinates.Form.{Form}
use Rattle.box_space.specs.declared.coordinates.Split.{Split}
use Rattle.box_tree.specs.Views.{shown_entry}
use Rattle.box_tree.specs.declared.entry.Entry.{Entry}
use Rattle.box_tree.specs.declared.entry.Entry.TheVariants.{Root, SplitOf, Improve}
use Rattle.std.specs.Prelude.{Result, Ok, Err, IfOk, IsSomeAnd}
use Rattle.branching.specs.Rows.{View, HasOpen}
use Rattle.branching.specs.Rules.{IsPick}
use Rattle.branching.specs.declared.name.RuleName.{RuleName}
use Rattle.dual_rounding.specs.Price.{IsPriced}
use Rattle.dual_rounding.proofs.Priced.{priced-raised}
use Rattle.leaf_cuts.specs.Given.{IsGiven}
use Rattle.plan_core.specs.Views.{shown_plan}
use Rattle.plan_repair.specs.Repairs.{IsGain}
use Rattle.pool_model.specs.Plan.{Written}
use Rattle.search_core.specs.Cases.{IsRepair}
use Rattle.search_core.specs.Next.{IsAnswer, IsEnded, IsEntry, IsLeastSplit, IsNext, tried_of}
use Rattle.search_core.specs.declared.next.Answer.{Answer}
use Rattle.search_core.specs.declared.next.Next.{Next}
use Rattle.search_core.specs.declared.next.Next.TheVariants as next
use Rattle.search_core.specs.declared.options.Options.{Options}
use Rattle.search_run.specs.Orders.{options_of, picked, Keeps}
use Rattle.search_run.specs.Due.{split_leaf}
use Rattle.search_run.specs.Steps.{IsHalf, IsCut, IsDue, IsStep, OwesNone}
use Rattle.search_run.specs.Runs.{AreSteps, IsEnd, IsNextStep}
use Rattle.search_core.specs.declared.ended.Ended.{Ended}
use Rattle.search_core.specs.declared.ended.Ended.TheVariants as ended
use Rattle.search_run.specs.declared.orders.Orders.{Orders}
use Rattle.search_run.proofs.Choosing.{pick-chosen}

-- ---- a split that comes next is a cut

pub half-of : (n : Net) (form : Form) (b : Box) (o : Option ℤ) (least : ℤ) (proof : Option Proof) → o ≡ Some least → IsGiven n form b (bound least) proof → IsHalf n form b o proof
half-of n form b o least proof e given = record {
  named = given.in_form;
  priced = subst (λ (z : Option ℤ). IsPriced n b (raised z (option_map (shown_by n b) proof))) (sym e) (priced-raised n b least proof given.price);
}

cut-of : (n : Net) (o : Orders) (s : Searched) (split : Split) (left right : Option Proof) → length s.tree.splits < o.nodes
    → IsLeastSplit n (options_of o) s (picked o.rule) split left right → IsCut n o s (shown_split split) left right
cut-of n o s split left right few is =
    let b = box_of n s.tree.splits split.leaf in
    record {
      few = few;
      leaf = is.leaf;
      cuttable = is.halving.cuttable;
      chosen = pick-chosen n o.form o.rule s.tree.splits b split.leaf is.view split is.seen is.picked;
      middle = is.halving.middle;
      left_half = half-of n o.form (left_of b split.coord split.cut) (tree_bound n s.tree) is.least left is.bounded is.halving.left_given;
      right_half = half-of n o.form (right_of b split.coord split.cut) (tree_bound n s.tree) is.least right is.bounded is.halving.right_given;
    }

-- ---- an entry that comes next is due

-- a repaired plan is a gain, from whatever point it was
repair-gain : (n : Net) (s : Searched) (tried : Option (List ℤ)) (w : Written) → IsSomeAnd tried (λ point. IsRepair n s point w) → IsGain n s.best w
repair-gain n s None w is = absurd is
repair-gain n s (Some point) w is = is.gain

-- a cut is due where no squeeze is owed
pub due-of : (n : Net) (o : Orders) (s : Searched) (repaired : Bool) (tried : Option (List ℤ)) (e : Entry)
    → ((leaf : ℕ) → split_leaf e ≡ Some leaf → OwesNone n o s leaf) → IsEntry n (options_of o) s repaired tried (picked o.rule) e → IsDue n o s (shown_entry e)
due-of n o s repaired tried (Improve plan) owes (inl start) = inl start
due-of n o s repaired tried (Improve plan) owes (inr repair) = inr (repair.rooted, repair-gain n s tried (shown_plan plan) repair.repair)
due-of n o s repaired tried (Root proof) owes is = is
due-of n o s repaired tried (SplitOf split left right) owes is =
    (is.0.rooted, inl (cut-of n o s split (option_map shown_proof left) (option_map shown_proof right) is.1 is.2, owes split.leaf refl))

-- ---- one step more

steps-more : (n : Net) (o : Orders) (s : Searched) (es : List entries.Entry) (e : entries.Entry) → AreSteps n o s es → IsStep n o (made_from s es) e → AreSteps n o s (es ++ e ∷ [])
steps-more n o s [] e are step = (step, tt)
steps-more n o s (x ∷ es) e are step = (are.0, steps-more n o (after s x) es e are.1 step)

made-more : (s : Searched) (es : List entries.Entry) (e : entries.Entry) → made_from s (es ++ e ∷ []) ≡ after (made_from s es) e
made-more s [] e = refl
made-more s (x ∷ es) e = made-more (after s x) es e

-- the steps from one tree to another
pub record IsWay (n : Net) (o : Orders) (begun found : Searched) : Type 0 where
  pub entries : List entries.Entry
  pub steps : AreSteps n o begun entries
  pub made : found ≡ made_from begun entries

pub way-start : (n : Net) (o : Orders) (s : Searched) → IsWay n o s s
way-start n o s = record { entries = []; steps = tt; made = refl }

pub way-more : (n : Net) (o : Orders) (begun s t : Searched) → IsWay n o begun s → IsNextStep n o s t → IsWay n o begun t
way-more n o begun s t way next = record {
  entries = way.entries ++ next.entry ∷ [];
  steps = steps-more n o begun way.entries next.entry way.steps (subst (λ (x : Searched). IsStep n o x next.entry) way.made next.step);
  made = next.made ∙ ap (λ (x : Searched). after x next.entry) way.made ∙ sym (made-more begun way.entries next.entry);
}

-- ---- what comes next, under the options of the orders, whatever point was tried

module _ (n : Net) (o : Orders) (s : Searched) (options : Options) (asked : options ≡ options_of o) (repaired : Bool) where
  pub next-end : (tried : Option (List ℤ)) (e : Ended) → IsEnded n options s repaired tried e → IsEnd n o s e
  next-end tried e is = ended-end e (subst (λ (x : Options). IsEnded n x s repaired tried e) asked is)
    where
      ended-end : (e : Ended) → IsEnded n (options_of o) s repaired tried e → IsEnd n o s e
      ended-end ended.Closed h = h
      ended-end ended.Infeasible h = h
      ended-end ended.Stopped h = (h.0.rooted, h.1, h.2)
      ended-end ended.Stuck h = (h.0.rooted, h.1, h.2, h.3)
      ended-end ended.Undecided h = (h.0.rooted, h.1, h.2)

-- ---- a closure that keeps to the rule

pub pick-weaker : (rule : RuleName) (post : Bor View → ℕ → Type 0) (v : View) (split : Split) → Keeps rule post → IsPick post v split → IsPick (picked rule) v split
pick-weaker rule post v split is pick =
    let a = pick.answered in
    record {
      place = pick.place;
      answered = record { shown = a.shown; shows = a.shows; says = is.keeps a.shown pick.place (subst (λ (w : View). HasOpen w.rows) (sym a.shows) (pick.place, pick.is_open)) a.says };
      is_open = pick.is_open;
      split_at = pick.split_at;
    }

entry-weaker : (n : Net) (o : Options) (s : Searched) (repaired : Bool) (tried : Option (List ℤ)) (rule : RuleName) (post : Bor View → ℕ → Type 0) (e : Entry) → Keeps rule post
    → IsEntry n o s repaired tried post e → IsEntry n o s repaired tried (picked rule) e
entry-weaker n o s repaired tried rule post (Improve plan) keeps is = is
entry-weaker n o s repaired tried rule post (Root proof) keeps is = is
entry-weaker n o s repaired tried rule post (SplitOf split left right) keeps is =
    let l = is.2 in (
      is.0,
      is.1,
      record {
        leaf = l.leaf;
        view = l.view;
        seen = l.seen;
        picked = pick-weaker rule post l.view split keeps l.picked;
        least = l.least;
        bounded = l.bounded;
        halving = l.halving;
      },
    )

pub next-weaker : (n : Net) (o : Options) (s : Searched) (repaired : Bool) (tried : Option (List ℤ)) (rule : RuleName) (post : Bor View → ℕ → Type 0) (answer : Next) → Keeps rule post
    → IsNext n o s repaired tried post answer → IsNext n o s repaired tried (picked rule) answer
next-weaker n o s repaired tried rule post (next.Do e) keeps is = entry-weaker n o s repaired tried rule post e keeps is
next-weaker n o s repaired tried rule post (next.End e) keeps is = is

pub each-weaker : {E : Type 0} (n : Net) (o : Options) (s : Searched) (repaired : Bool) (rule : RuleName) (post : Bor View → ℕ → Type 0) (r : Result Answer E) → Keeps rule post
    → IfOk r (IsAnswer n o s repaired post) → IfOk r (IsAnswer n o s repaired (picked rule))
each-weaker n o s repaired rule post (Ok answer) keeps h = next-weaker n o s repaired (tried_of answer) rule post answer.due keeps h
each-weaker n o s repaired rule post (Err e) keeps h = tt
