-- What an answer that fits makes of a desk.
use Rattle.std.proofs.Common.{◌≡◌, ◌≢◌, ℕ, ◌<◌, ◌⊎◌, inl, inr, ◌==◌, ◌||◌, List, [], ◌∷◌, ◌++◌, length, get_or, set, Bool, true, false, arith, refl, sym, ap, subst, ◌∙◌}
use Rattle.std.proofs.Common.{get_or-set_same, get_or-set_other}
use Rattle.std.specs.Prelude.{◌↔◌}
use Rattle.std.specs.List.{Contains}
use Rattle.std.proofs.lemmas.List.{length-set, map_push}
use Rattle.std.proofs.lemmas.List.Elements.{Contains-get_or, Contains-push, Contains-push_cases, Contains-append_left}
use Rattle.std.proofs.lemmas.List.Quantifiers.{all_pairs_push}
use Rattle.integers.proofs.AtKey.{same_or_other}
use Rattle.pool_model.specs.Network.{Net}
use Rattle.row_model.specs.Trees.{is_cut}
use Rattle.row_model.specs.Entries.{Entry, Searched, after, made_from, IsEntryInOrder, AreInOrderFrom}
use Rattle.row_model.proofs.TreeLaw.{same_node, other_leaf}
use Rattle.work_units.specs.Units.{Answer, node_of, Splits}
use Rattle.work_units.specs.Desks.{Desk, is_answered, entries_of, IsFrom, AreFlagged}
use Rattle.work_units.specs.Judging.{IsAtJob, after_delivery}
use Rattle.work_units.specs.declared.job.Job.{Job}
use Rattle.work_units.specs.declared.answer.Judged.TheVariants.{Fits}
use Rattle.work_units.proofs.Lists.{or-cases, or-left, or-right, is-same}
use Rattle.work_units.proofs.Grown.{cut-after, more-nodes}

-- ---- one entry more at the end

pub made-push : (s : Searched) (es : List Entry) (e : Entry) → made_from s (es ++ e ∷ []) ≡ after (made_from s es) e
made-push s [] e = refl
made-push s (x ∷ es) e = made-push (after s x) es e

pub order-push : (n : Net) (s : Searched) (es : List Entry) (e : Entry) → AreInOrderFrom n s es → IsEntryInOrder n (made_from s es) e → AreInOrderFrom n s (es ++ e ∷ [])
order-push n s [] e h k = (k, tt)
order-push n s (x ∷ es) e h k = (h.0, order-push n (after s x) es e h.1 k)

entries-push : (answers : List Answer) (a : Answer) → entries_of (answers ++ a ∷ []) ≡ entries_of answers ++ a.entry ∷ []
entries-push answers a = map_push (λ (x : Answer). x.entry) answers a

-- ---- an answer that fits

module _ (n : Net) (s : Searched) (d : Desk) (a : Answer) (is : IsFrom n s d) (at : IsAtJob d a) (order : IsEntryInOrder n d.searched a.entry) where
  -- no answer of its number was taken
  new-number : (b : Answer) → Contains d.taken b → b.number ≢ a.number
  new-number b has e =
      let cut : is_answered d b.number ≡ true = (is.answered b.number (is.known b has)).1 (inr (b, has, refl)) in
      let open_is : is_answered d b.number ≡ false = ap (is_answered d) e ∙ at.waiting.unanswered in
      cc

  answered-next : (k : ℕ) → k < length d.jobs → (is_answered (after_delivery d a Fits) k ≡ true)
      ↔ ((is_cut s.tree.splits (node_of d.jobs k) ≡ true) ⊎ ((b : Answer) × Contains (d.taken ++ a ∷ []) b × (b.number ≡ k)))
  answered-next k h =
      let here = node_of d.jobs a.number in
      let m = node_of d.jobs k in
      let cut = is_cut d.searched.tree.splits m in
      let more : is_answered (after_delivery d a Fits) k ≡ (cut || (here == m)) = cut-after d.searched a.entry here m at.splits in (
        λ e. elim (or-cases cut (here == m) (sym more ∙ e)) [
          | inl c ↦ elim ((is.answered k h).0 c) [ inl old ↦ inl old | inr w ↦ inr (w.0, Contains-append_left d.taken (a ∷ []) w.0 w.1, w.2) ]
          | inr c ↦ inr (a, Contains-push d.taken a, is.jobs.apart a.number k at.waiting.known h (is-same here m c))
        ],
        λ o. more ∙ elim o [
          | inl old ↦ or-left cut (here == m) ((is.answered k h).1 (inl old))
          | inr w ↦ elim (Contains-push_cases d.taken a w.0 w.1) [
            | inl has ↦ or-left cut (here == m) ((is.answered k h).1 (inr (w.0, has, w.2)))
            | inr q ↦ or-right cut (here == m) (ap (λ (i : ℕ). here == node_of d.jobs i) (sym w.2 ∙ ap (λ (x : Answer). x.number) (sym q)) ∙ same_node here)
          ]
        ],
      )

  pub from-next : IsFrom n s (after_delivery d a Fits)
  from-next = record {
    began = is.began;
    jobs = is.jobs;
    apart = all_pairs_push (λ (x y : Answer). x.number ≢ y.number) d.taken a is.apart (λ k x h. new-number (get_or d.taken k x) (Contains-get_or d.taken k x h));
    known = λ b has. elim (Contains-push_cases d.taken a b has) [ inl old ↦ is.known b old | inr q ↦ subst (λ (x : Answer). x.number < length d.jobs) q at.waiting.known ];
    splits = λ b has. elim (Contains-push_cases d.taken a b has) [ inl old ↦ is.splits b old | inr q ↦ subst (λ (x : Answer). Splits (node_of d.jobs x.number) x.entry) q at.splits ];
    in_order = subst (AreInOrderFrom n s) (sym (entries-push d.taken a))
        (order-push n s (entries_of d.taken) a.entry is.in_order (subst (λ (z : Searched). IsEntryInOrder n z a.entry) is.made order));
    made = ap (λ (z : Searched). after z a.entry) is.made ∙ sym (made-push s (entries_of d.taken) a.entry) ∙ ap (made_from s) (sym (entries-push d.taken a));
    answered = answered-next;
  }

-- ---- flags

pub flags-next : (s : Searched) (e : Entry) (number : ℕ) (jobs : List Job) (flags : List Bool) → AreFlagged s.tree.splits jobs flags → number < length jobs → Splits (node_of jobs number) e
    → AreFlagged (after s e).tree.splits jobs (set flags number true)
flags-next s e number jobs flags is known splits =
    let here = node_of jobs number in
    record {
      are = record {
        numbered = is.are.numbered;
        there = λ k h. omega (arith, is.are.there k h, more-nodes s e here splits);
        apart = is.are.apart;
      };
      many = length-set flags number true ∙ is.many;
      flags = λ k h. let more = cut-after s e here (node_of jobs k) splits in
          elim (same_or_other k number) [
            | inl q ↦ ap (λ (i : ℕ). get_or (set flags number true) i false) q ∙ get_or-set_same flags number true false (omega (arith, known, is.many))
                ∙ sym (more ∙ or-right (is_cut s.tree.splits (node_of jobs k)) (here == node_of jobs k) (ap (λ (i : ℕ). here == node_of jobs i) q ∙ same_node here))
            | inr other ↦ get_or-set_other flags number k true false other ∙ is.flags k h
                ∙ sym (more ∙ uncut (is_cut s.tree.splits (node_of jobs k)) (here == node_of jobs k)
                (other_leaf here (node_of jobs k) (λ q. other (sym (is.are.apart number k known h q)))))
          ];
    }
  where
    uncut : (a b : Bool) → b ≡ false → (a || b) ≡ a
    uncut true b e = refl
    uncut false b e = e
