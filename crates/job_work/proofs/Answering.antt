-- Answers to jobs, one after another.
use Rattle.std.proofs.Common.{◌≡◌, ℕ, ◌<◌, ◌⊎◌, inl, inr, ◌+◌, List, [], ◌∷◌, ◌++◌, length, get_or, map, All, arith, sym, subst, ◌∙◌}
use Rattle.std.specs.List.{AllPairs}
use Rattle.std.proofs.lemmas.List.Elements.{All-push, All-weaker, All-contains, All-get_or, Contains-push, Contains-append_left}
use Rattle.std.proofs.lemmas.List.Quantifiers.{all_pairs_push}
use Rattle.std.proofs.lemmas.List.{map_push}
use Rattle.pool_model.specs.Network.{Net}
use Rattle.row_model.specs.Trees.{box_of}
use Rattle.row_model.specs.Entries.{Searched}
use Rattle.box_space.specs.declared.coordinates.Form.{Form}
use Rattle.box_tree.specs.Views.{shown_entry}
use Rattle.work_units.specs.Units.{Answer, node_of}
use Rattle.work_units.specs.Views.{shown_answer}
use Rattle.work_units.specs.declared.answer.Answer as held
use Rattle.work_units.specs.declared.job.Job.{Job}
use Rattle.job_work.specs.Worked.{CanBeCut, IsWorked}
use Rattle.job_work.specs.Answered.{HasAnswer, AreAnswered, IsAnswerTo, AreWorked}
use Rattle.job_work.proofs.Working.{worked-cut}

-- the first so many jobs are answered
pub record AreSoFar (n : Net) (form : Form) (s : Searched) (jobs : List Job) (count : ℕ) (answers : List Answer) : Type 0 where
  pub ordered : AllPairs (λ a b. a.number < b.number) answers
  pub below : All (λ a. a.number < count) answers
  pub worked : AreWorked n form s jobs answers
  pub found : (k : ℕ) → k < count → CanBeCut n form (box_of n s.tree.splits (node_of jobs k)) → HasAnswer answers k

last-or-not : (k count : ℕ) → k < count + 1 → (k < count) ⊎ (k ≡ count)
last-or-not k count h = grind arith

pub so_far-push : (n : Net) (form : Form) (s : Searched) (jobs : List Job) (count : ℕ) (answers : List Answer) (a : Answer) → AreSoFar n form s jobs count answers
    → count < length jobs → a.number ≡ count → IsWorked n form s (node_of jobs count) a.entry → AreSoFar n form s jobs (count + 1) (answers ++ a ∷ [])
so_far-push n form s jobs count answers a so known is worked = record {
  ordered = all_pairs_push (λ (x y : Answer). x.number < y.number) answers a so.ordered
      (λ k x h. subst (λ (m : ℕ). (get_or answers k x).number < m) (sym is) (All-get_or (λ (y : Answer). y.number < count) answers k x h so.below));
  below = All-push (λ (x : Answer). x.number < count + 1) answers a
      (All-weaker (λ (x : Answer). x.number < count) (λ (x : Answer). x.number < count + 1) (λ x h. omega (arith, h)) answers so.below) (omega (arith, is));
  worked = All-push (IsAnswerTo n form s jobs) answers a so.worked record {
    known = omega (arith, is, known);
    worked = subst (λ (m : ℕ). IsWorked n form s (node_of jobs m) a.entry) (sym is) worked;
  };
  found = λ k h can. elim (last-or-not k count h) [
    | inl lt ↦ let w = so.found k lt can in (w.0, Contains-append_left answers (a ∷ []) w.0 w.1, w.2)
    | inr e ↦ (a, Contains-push answers a, is ∙ sym e)
  ];
}

-- the same of answers as they are held
pub so_far-next : (n : Net) (form : Form) (s : Searched) (jobs : List Job) (count : ℕ) (answers : List held.Answer) (a : held.Answer)
    → AreSoFar n form s jobs count (map shown_answer answers) → count < length jobs → a.number ≡ count → IsWorked n form s (node_of jobs count) (shown_entry a.entry)
    → AreSoFar n form s jobs (count + 1) (map shown_answer (answers ++ a ∷ []))
so_far-next n form s jobs count answers a so known is worked = subst (AreSoFar n form s jobs (count + 1)) (sym (map_push shown_answer answers a))
    (so_far-push n form s jobs count (map shown_answer answers) (shown_answer a) so known is worked)

pub so_far-pass : (n : Net) (form : Form) (s : Searched) (jobs : List Job) (count : ℕ) (answers : List Answer) → AreSoFar n form s jobs count answers
    → ¬ CanBeCut n form (box_of n s.tree.splits (node_of jobs count)) → AreSoFar n form s jobs (count + 1) answers
so_far-pass n form s jobs count answers so uncut = record {
  ordered = so.ordered;
  below = All-weaker (λ (x : Answer). x.number < count) (λ (x : Answer). x.number < count + 1) (λ x h. omega (arith, h)) answers so.below;
  worked = so.worked;
  found = λ k h can. elim (last-or-not k count h) [
    | inl lt ↦ so.found k lt can
    | inr e ↦ absurd (uncut (subst (λ (m : ℕ). CanBeCut n form (box_of n s.tree.splits (node_of jobs m))) e can))
  ];
}

pub so_far-done : (n : Net) (form : Form) (s : Searched) (jobs : List Job) (answers : List Answer) → AreSoFar n form s jobs (length jobs) answers
    → AreAnswered n form s.tree.splits jobs answers
so_far-done n form s jobs answers so = record {
  ordered = so.ordered;
  answered = λ k. (
    λ w.
        let at = All-contains (IsAnswerTo n form s jobs) answers w.0 so.worked w.1 in
        subst (λ (m : ℕ). (m < length jobs) × CanBeCut n form (box_of n s.tree.splits (node_of jobs m))) w.2
        (at.known, worked-cut n form s (node_of jobs w.0.number) w.0.entry at.worked),
    λ h. so.found k h.0 h.1,
  );
}
