-- Behind the last item, and behind no other, nothing comes any more.
use Rattle.std.proofs.Common.{◌≡◌, ◌≢◌, ℕ, ◌-◌, ◌^◌, Bool, true, false, cond, eqb, List, Result, Ok, Err, refl, subst}
use Rattle.std.specs.Prelude.{codes}
use Rattle.cert_text.specs.declared.pieces.Ends.TheVariants.{Space, Line, LineIfZero}
use Rattle.cert_text.specs.Reading.{At, ◌>>=◌, word_at, same_at, end_of, ends_before, u32_at, u64_at, i128_at}
use Rattle.cert_format.specs.declared.reading.Kind.{Kind}
use Rattle.cert_format.specs.declared.reading.Kind.TheVariants as kinds
use Rattle.cert_format.specs.Reading.{kind_at, shape_at, list_word_at, split_line_at, part_at, bound_at}
use Rattle.cert_items.specs.declared.items.Item as declared
use Rattle.cert_items.specs.declared.items.Item.TheVariants as items
use Rattle.cert_items.specs.declared.items.State.{State}
use Rattle.cert_items.specs.declared.items.State.TheVariants as states
use Rattle.cert_items.specs.Items.{Field, kind, shape, bases, weight, outflow, direct, splits, cut, proofs, head, one_part, cost_is, bound_is, gap_is, end_is}
use Rattle.cert_items.specs.Items.{claim_state, cuts_left, proofs_left, parts_left, directs_left, direct_words_at, outflow_words_at, weight_words_at}
use Rattle.cert_items.specs.Items.{shown_item, shaped_state, begin_at, shape_step_at, bases_step_at, weight_step_at, outflow_step_at, direct_step_at}
use Rattle.cert_items.specs.Items.{head_step_at, claim_step_at, next_at}

-- this holds of what was read
abbrev AllOk : {X : Type 0} → (X → Type 0) → Result (X × At) ℕ → Type 0
AllOk P (Ok p) = P p.0
AllOk P (Err n) = Unit {0}

bind-all : {A Y : Type 0} (P : Y → Type 0) (r : Result A ℕ) (f : A → Result (Y × At) ℕ) → ((x : A) → AllOk P (f x)) → AllOk P (r >>= f)
bind-all P (Ok x) f h = h x
bind-all P (Err n) f h = tt

-- something comes
abbrev IsGoing : State → Type 0
IsGoing t = t ≢ states.Ended

going-either : (b : Bool) (s t : State) → IsGoing s → IsGoing t → IsGoing (cond b s t)
going-either true s t h k = h
going-either false s t h k = k

claim-going : (k : Kind) → IsGoing (claim_state k)
claim-going kinds.Gap = λ e. cc
claim-going kinds.Bound = λ e. cc
claim-going kinds.NoPlan = λ e. cc

cuts-going : (k : Kind) (n : ℕ) → IsGoing (cuts_left k n)
cuts-going k n = going-either (eqb n 0) (states.Proofs k) (states.Cut k (n - 1)) (λ e. cc) (λ e. cc)

proofs-going : (k : Kind) (n : ℕ) → IsGoing (proofs_left k n)
proofs-going k n = going-either (eqb n 0) (claim_state k) (states.Head k (n - 1)) (claim-going k) (λ e. cc)

parts-going : (k : Kind) (n m : ℕ) → IsGoing (parts_left k n m)
parts-going k n m = going-either (eqb n 0) (proofs_left k m) (states.Part k (n - 1) m) (proofs-going k m) (λ e. cc)

directs-going : (n : ℕ) → IsGoing (directs_left n)
directs-going n = going-either (eqb n 0) (states.Splits kinds.Gap) (states.Direct (n - 1)) (λ e. cc) (λ e. cc)

-- what was found is a state in which something comes
abbrev Found : Result (State × At) ℕ → Type 0
Found r = AllOk IsGoing r

found-either : (b : Bool) (r : Result (State × At) ℕ) (t : State) (a : At) → Found r → IsGoing t → Found (cond b r (Ok (t, a)))
found-either true r t a h k = h
found-either false r t a h k = k

direct-words : (n : ℕ) (a : At) → Found (direct_words_at n a)
unfolding direct_words_at
direct-words n a = bind-all IsGoing (list_word_at (codes "direct") n a) _ (λ w. directs-going n)

outflow-words : (n d : ℕ) (a : At) → Found (outflow_words_at n d a)
unfolding outflow_words_at
outflow-words n d a = bind-all IsGoing (list_word_at (codes "outflows") n a) _ (λ w. found-either (eqb n 0) (direct_words_at d w.1) (states.Outflow (n - 1) d) w.1 (direct-words d w.1) (λ e. cc))

weight-words : (n o d : ℕ) (a : At) → Found (weight_words_at n o d a)
unfolding weight_words_at
weight-words n o d a = bind-all IsGoing (list_word_at (codes "weights") n a) _
    (λ w. found-either (eqb n 0) (outflow_words_at o d w.1) (states.Weight (n - 1) o d) w.1 (outflow-words o d w.1) (λ e. cc))

-- behind the last item nothing comes, and behind any other something does
abbrev fair : Field → State → Type 0
fair end_is t = t ≡ states.Ended
fair (kind _) t = IsGoing t
fair (shape _) t = IsGoing t
fair (bases _ _) t = IsGoing t
fair (weight _) t = IsGoing t
fair (outflow _) t = IsGoing t
fair (direct _) t = IsGoing t
fair (splits _) t = IsGoing t
fair (cut _) t = IsGoing t
fair (proofs _) t = IsGoing t
fair (head _ _ _) t = IsGoing t
fair (one_part _) t = IsGoing t
fair (cost_is _ _) t = IsGoing t
fair (bound_is _) t = IsGoing t
fair (gap_is _ _) t = IsGoing t

abbrev IsFair : Field × State → Type 0
IsFair p = fair p.0 p.1

-- an item, and a state that was found behind it
found-behind : (i : Field) (r : Result (State × At) ℕ) → ((t : State) → IsGoing t → fair i t) → Found r → AllOk IsFair (r >>= λ next. Ok ((i, next.0), next.1))
found-behind i (Ok p) f h = f p.0 h
found-behind i (Err n) f h = tt

shaped-going : (k : Kind) (s : List ℕ) → IsGoing (shaped_state k s)
shaped-going kinds.Gap s = λ e. cc
shaped-going kinds.Bound s = λ e. cc
shaped-going kinds.NoPlan s = λ e. cc

next-fair : (s : State) (a : At) → AllOk IsFair (next_at s a)
unfolding next_at begin_at shape_step_at bases_step_at weight_step_at outflow_step_at direct_step_at head_step_at claim_step_at
next-fair states.Begin a = bind-all IsFair (word_at (codes "poolcert 1\n") a) _ (λ w. bind-all IsFair (kind_at w.1) _ (λ k e. cc))
next-fair (states.Shape k) a = bind-all IsFair (shape_at a) _ (λ s. shaped-going k s.0)
next-fair (states.Bases n o d) a = bind-all IsFair (word_at (codes "plan ") a) _ (λ w. bind-all IsFair (u32_at Space w.1) _ (λ b. bind-all IsFair (u32_at Line b.1) _ (λ f.
    found-behind (bases b.0 f.0) (weight_words_at n o d f.1) (λ t h. h) (weight-words n o d f.1))))
next-fair (states.Weight n o d) a = bind-all IsFair (u32_at (ends_before n) a) _ (λ w.
    found-behind (weight w.0) (cond (eqb n 0) (outflow_words_at o d w.1) (Ok (states.Weight (n - 1) o d, w.1))) (λ t h. h)
    (found-either (eqb n 0) (outflow_words_at o d w.1) (states.Weight (n - 1) o d) w.1 (outflow-words o d w.1) (λ e. cc)))
next-fair (states.Outflow n d) a = bind-all IsFair (u64_at (ends_before n) a) _ (λ w.
    found-behind (outflow w.0) (cond (eqb n 0) (direct_words_at d w.1) (Ok (states.Outflow (n - 1) d, w.1))) (λ t h. h)
    (found-either (eqb n 0) (direct_words_at d w.1) (states.Outflow (n - 1) d) w.1 (direct-words d w.1) (λ e. cc)))
next-fair (states.Direct n) a = bind-all IsFair (u64_at (ends_before n) a) _ (λ f. directs-going n)
next-fair (states.Splits k) a = bind-all IsFair (word_at (codes "splits ") a) _ (λ w. bind-all IsFair (u32_at Line w.1) _ (λ n. cuts-going k n.0))
next-fair (states.Cut k n) a = bind-all IsFair (split_line_at a) _ (λ s. cuts-going k n)
next-fair (states.Proofs k) a = bind-all IsFair (word_at (codes "proofs ") a) _ (λ w. bind-all IsFair (u32_at Line w.1) _ (λ n. proofs-going k n.0))
next-fair (states.Head k n) a = bind-all IsFair (word_at (codes "proof ") a) _ (λ w. bind-all IsFair (u32_at Space w.1) _ (λ node. bind-all IsFair (u64_at Space node.1) _ (λ scale.
    bind-all IsFair (u32_at LineIfZero scale.1) _ (λ count. parts-going k count.0 n))))
next-fair (states.Part k n behind) a = bind-all IsFair (part_at n a) _ (λ p. parts-going k n behind)
next-fair states.Cost a = bind-all IsFair (word_at (codes "cost ") a) _ (λ w. bind-all IsFair (i128_at Space w.1) _ (λ c. bind-all IsFair (u64_at Line c.1) _ (λ b e. cc)))
next-fair (states.GapBound b) a = bind-all IsFair (bound_at a) _ (λ d e. cc)
next-fair (states.Gap b) a = bind-all IsFair (word_at (codes "gap ") a) _ (λ w. bind-all IsFair (i128_at Space w.1) _ (λ g. bind-all IsFair (same_at (2 ^ 64 - 1) (end_of Line) b g.1) _ (λ s e. cc)))
next-fair states.Bound a = bind-all IsFair (bound_at a) _ (λ d e. cc)
next-fair states.End a = bind-all IsFair (word_at (codes "end\n") a) _ (λ w. refl)
next-fair states.Ended a = tt

of-ok : {X : Type 0} (P : X → Type 0) (r : Result (X × At) ℕ) (x : X) (b : At) → AllOk P r → r ≡ Ok (x, b) → P x
of-ok P r x b h e = subst (λ q. AllOk P q) e h

fair-of : (s : State) (a : At) (i : Field) (t : State) (b : At) → next_at s a ≡ Ok ((i, t), b) → fair i t
fair-of s a i t b e = of-ok IsFair (next_at s a) (i, t) b (next-fair s a) e

-- nothing comes behind the last item
pub end-last : (s : State) (a : At) (item : declared.Item) (t : State) (b : At) → next_at s a ≡ Ok ((shown_item item, t), b) → item ≡ items.End → t ≡ states.Ended
end-last s a item t b e h = fair-of s a end_is t b (subst (λ (i : declared.Item). next_at s a ≡ Ok ((shown_item i, t), b)) h e)

-- nothing comes behind no other
by-kind : (item : declared.Item) (t : State) → fair (shown_item item) t → t ≡ states.Ended → item ≡ items.End
by-kind items.End t f e = refl
by-kind (items.Kind _) t f e = absurd (f e)
by-kind (items.Shape _) t f e = absurd (f e)
by-kind (items.Bases _ _) t f e = absurd (f e)
by-kind (items.Weight _) t f e = absurd (f e)
by-kind (items.Outflow _) t f e = absurd (f e)
by-kind (items.Direct _) t f e = absurd (f e)
by-kind (items.Splits _) t f e = absurd (f e)
by-kind (items.Cut _) t f e = absurd (f e)
by-kind (items.Proofs _) t f e = absurd (f e)
by-kind (items.ProofHead _ _ _) t f e = absurd (f e)
by-kind (items.OnePart _) t f e = absurd (f e)
by-kind (items.CostIs _ _) t f e = absurd (f e)
by-kind (items.BoundIs _) t f e = absurd (f e)
by-kind (items.GapIs _ _) t f e = absurd (f e)

pub last-end : (s : State) (a : At) (item : declared.Item) (t : State) (b : At) → next_at s a ≡ Ok ((shown_item item, t), b) → t ≡ states.Ended → item ≡ items.End
last-end s a item t b e h = by-kind item t (fair-of s a (shown_item item) t b e) h
