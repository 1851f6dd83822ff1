-- The best of what was tried so far, and what is known by it.
use Rattle.std.proofs.Common.{List, [], ◌∷◌, ◌++◌, All, Option, Some, None, append_assoc, arith, refl, sym, ap, subst, ◌∙◌}
use Rattle.std.proofs.lemmas.Int.{ints, by_lt_z}
use Rattle.std.proofs.lemmas.List.Elements.{All-append, All-push, All-cons, All-nil, All-weaker}
use Rattle.pool_model.specs.Network.{Net}
use Rattle.row_model.specs.Boxes.{Box}
use Rattle.row_model.specs.Multipliers.{Proof, IsInOrder, Shown, bound, no_plan, shown_by}
use Rattle.dual_rounding.specs.Answers.{IsBelow, IsAtMost, ShowsBelow, ShowsAtMost, IsRounded, known_by}

-- ---- the order of what is shown

pub at_most_self : (s : Shown) → IsAtMost s s
at_most_self (bound a) = omega (arith, ints)
at_most_self no_plan = tt

pub below-at_most : (s t : Shown) → IsBelow s t → IsAtMost s t
below-at_most (bound a) (bound b) h = omega (arith, ints)
below-at_most (bound a) no_plan h = tt
below-at_most no_plan t h = absurd h

pub at_most-below : (s t u : Shown) → IsAtMost s t → IsBelow t u → IsBelow s u
at_most-below (bound a) (bound b) (bound c) h k = omega (arith, ints)
at_most-below (bound a) (bound b) no_plan h k = tt
at_most-below (bound a) no_plan u h k = absurd k
at_most-below no_plan (bound b) u h k = absurd h
at_most-below no_plan no_plan u h k = absurd k

pub at_most-not_below : (s t : Shown) → ¬ IsBelow t s → IsAtMost s t
at_most-not_below (bound a) (bound b) h = by_lt_z b a (λ lt. absurd (h lt)) (λ le. le)
at_most-not_below s no_plan h = tt
at_most-not_below no_plan (bound b) h = absurd (h tt)

-- ---- proofs that are tried one after another

module _ (n : Net) (b : Box) (fallback : Shown) where
  at_least_fallback : (tried : List Proof) (o : Option Proof) → IsRounded n b tried fallback o → IsAtMost fallback (known_by n b fallback o)
  at_least_fallback tried None h = at_most_self fallback
  at_least_fallback tried (Some p) h = below-at_most fallback (shown_by n b p) h.above

  -- no tried proof shows more than what is known
  pub tried-at_most : (tried : List Proof) (o : Option Proof) → IsRounded n b tried fallback o → All (ShowsAtMost n b (known_by n b fallback o)) tried
  tried-at_most tried None h = h
  tried-at_most tried (Some p) h =
      let s = shown_by n b p in
      let front = All-weaker (ShowsBelow n b s) (ShowsAtMost n b s) (λ q less is. below-at_most (shown_by n b q) s (less is)) h.before h.less in
      let back = All-cons (ShowsAtMost n b s) p h.after (λ is. at_most_self s) h.no_more in
      let whole = All-append (ShowsAtMost n b s) h.before (p ∷ h.after) front back in
      subst (λ ps. All (ShowsAtMost n b s) ps) (sym h.split) whole

  -- one more, that shows more
  pub rounded-better : (tried : List Proof) (o : Option Proof) (q : Proof) → IsRounded n b tried fallback o → IsInOrder n b q
      → IsBelow (known_by n b fallback o) (shown_by n b q) → IsRounded n b (tried ++ q ∷ []) fallback (Some q)
  rounded-better tried o q h is more = record {
    before = tried;
    after = [];
    split = refl;
    in_order = is;
    above = at_most-below fallback (known_by n b fallback o) (shown_by n b q) (at_least_fallback tried o h) more;
    less = All-weaker (ShowsAtMost n b (known_by n b fallback o)) (ShowsBelow n b (shown_by n b q))
        (λ p most in_order. at_most-below (shown_by n b p) (known_by n b fallback o) (shown_by n b q) (most in_order) more) tried (tried-at_most tried o h);
    no_more = All-nil (ShowsAtMost n b (shown_by n b q));
  }

  -- one more, that shows no more
  pub rounded-same : (tried : List Proof) (o : Option Proof) (q : Proof) → IsRounded n b tried fallback o → ShowsAtMost n b (known_by n b fallback o) q
      → IsRounded n b (tried ++ q ∷ []) fallback o
  rounded-same tried None q h most = All-push (ShowsAtMost n b fallback) tried q h most
  rounded-same tried (Some p) q h most = record {
    before = h.before;
    after = h.after ++ q ∷ [];
    split = ap (λ ps. ps ++ q ∷ []) h.split ∙ append_assoc h.before (p ∷ h.after) (q ∷ []);
    in_order = h.in_order;
    above = h.above;
    less = h.less;
    no_more = All-push (ShowsAtMost n b (shown_by n b p)) h.after q h.no_more most;
  }
