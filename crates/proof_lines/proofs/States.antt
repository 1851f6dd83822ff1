-- What a text goes on with: one of so many, or what comes behind them.
use Rattle.std.proofs.Common.{◌≡◌, ◌≢◌, ℕ, ◌+◌, ◌-◌, ◌<◌, Bool, true, false, cond, eqb, List, refl, arith}
use Rattle.std.proofs.lemmas.Bool.{ne_eqb}
use Rattle.cert_format.specs.declared.reading.Kind.{Kind}
use Rattle.cert_format.specs.declared.reading.Kind.TheVariants as kinds
use Rattle.cert_items.specs.declared.items.State.{State}
use Rattle.cert_items.specs.declared.items.State.TheVariants as states
use Rattle.cert_stream.specs.Items.{claim_state, cuts_left, proofs_left, parts_left, shaped_state}

-- ---- one of so many

-- one of a count
one_left : (n i : ℕ) (none : State) (some : ℕ → State) → i < n → cond (eqb (n - i) 0) none (some (n - i - 1)) ≡ some (n - (i + 1))
one_left n i none some h = let e : eqb (n - i) 0 ≡ false = ne_eqb (n - i) 0 (λ e. omega arith) in let g : n - i - 1 ≡ n - (i + 1) = omega arith in rw (e, g) refl

pub cut-left : (k : Kind) (n i : ℕ) → i < n → cuts_left k (n - i) ≡ states.Cut k (n - (i + 1))
cut-left k n i h = one_left n i (states.Proofs k) (λ m. states.Cut k m) h

pub head-left : (k : Kind) (n i : ℕ) → i < n → proofs_left k (n - i) ≡ states.Head k (n - (i + 1))
head-left k n i h = one_left n i (claim_state k) (λ m. states.Head k m) h

pub part-left : (k : Kind) (n i behind : ℕ) → i < n → parts_left k (n - i) behind ≡ states.Part k (n - (i + 1)) behind
part-left k n i behind h = one_left n i (proofs_left k behind) (λ m. states.Part k m behind) h

-- ---- states that go on

pub left-going : (b : Bool) (x y : State) → x ≢ states.Ended → y ≢ states.Ended → cond b x y ≢ states.Ended
left-going true x y h k = h
left-going false x y h k = k

pub shaped-going : (k : Kind) (s : List ℕ) → shaped_state k s ≢ states.Ended
shaped-going kinds.Gap s = λ e. cc
shaped-going kinds.Bound s = λ e. cc
shaped-going kinds.NoPlan s = λ e. cc
