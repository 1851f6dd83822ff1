-- Splits that are read and taken one after another.
use Rattle.std.proofs.Common.{◌≡◌, ℕ, ◌+◌, ◌-◌, ◌<◌, ◌≤◌, eqb, List, [], ◌∷◌, ◌++◌, length, take, length-append, inr, refl, sym, ap, subst, ◌∙◌, arith}
use Rattle.std.specs.Prelude.{map}
use Rattle.std.proofs.lemmas.List.{map-append}
use Rattle.std.proofs.Math.Seq.{take-append_seam, get_or-append_seam}
use Rattle.pool_model.specs.Network.{Net}
use Rattle.row_model.specs.Trees.{Split, no_split, split_at}
use Rattle.split_tree.specs.Faults.{Holds}
use Rattle.split_tree.specs.Splits.{Splits, IsOf}
use Rattle.split_tree.specs.declared.fault.SplitFault.{SplitFault}
use Rattle.cert_format.specs.declared.reading.Kind.{Kind}
use Rattle.cert_items.specs.declared.items.State.TheVariants as states
use Rattle.cert_stream.specs.Items.{Field, splits, cut, cuts_left}
use Rattle.proof_lines.specs.declared.refusal.Refusal.TheVariants.{Split as SplitAt}
use Rattle.proof_lines.specs.declared.stream_refusal.StreamRefusal.TheVariants.{Refused}
use Rattle.proof_lines.specs.Parts.{IsTaken}
use Rattle.cert_checker.specs.Parts.{IsSplitList, IsWrongSplitList}
use Rattle.proof_lines.specs.Runs.{Moment, Run, Halts, IsReady}
use Rattle.proof_lines.proofs.States.{left-going, cut-left}
use Rattle.proof_lines.proofs.Running.{run-then}
use Rattle.cert_checker.proofs.Taking.{AreTaken, wrong-next}

-- so many of a count of splits are read, and taken into a tree
pub record AreCut (n : Net) (kind : Kind) (m k : Moment) (count t : ℕ) (tree : Splits) : Type 0 where
  pub run : Run m k (splits count ∷ map cut tree.list)
  pub long : length tree.list ≡ t
  pub few : t ≤ count
  pub ready : IsReady k (cuts_left kind (count - t))
  pub is : IsOf n tree

pub cut-asks : (n : Net) (kind : Kind) (m k : Moment) (count t : ℕ) (tree : Splits) → AreCut n kind m k count t tree → t < count → k.reader.state ≡ states.Cut kind (count - (t + 1))
cut-asks n kind m k count t tree are lt = are.ready.at ∙ cut-left kind count t lt

-- the items with one split more
cut-run : (n : Net) (kind : Kind) (m k l : Moment) (count t : ℕ) (tree : Splits) (s : Split) → AreCut n kind m k count t tree → Run k l (cut s ∷ [])
    → Run m l (splits count ∷ map cut (tree.list ++ s ∷ []))
cut-run n kind m k l count t tree s are run =
    subst (λ (is : List Field). Run m l (splits count ∷ is)) (sym (map-append cut tree.list (s ∷ []))) (run-then m k l (splits count ∷ map cut tree.list) (cut s ∷ []) are.run run)

one-more : (list : List Split) (s : Split) (t : ℕ) → length list ≡ t → length (list ++ s ∷ []) ≡ t + 1
one-more list s t long = let one : length (s ∷ []) ≡ 1 = refl in omega (arith, long, one, length-append list (s ∷ []))

pub cut-more : (n : Net) (kind : Kind) (m k l : Moment) (count t : ℕ) (tree new : Splits) (s : Split) → AreCut n kind m k count t tree → t < count → Run k l (cut s ∷ [])
    → IsReady l (cuts_left kind (count - (t + 1)))
    → new.list ≡ tree.list ++ s ∷ [] → IsOf n new → AreCut n kind m l count (t + 1) new
cut-more n kind m k l count t tree new s are lt run ready longer is = record {
  run = subst (λ (x : List Split). Run m l (splits count ∷ map cut x)) (sym longer) (cut-run n kind m k l count t tree s are run);
  long = ap length longer ∙ one-more tree.list s t are.long;
  few = omega arith;
  ready = ready;
  is = is;
}

pub cut-wrong : (n : Net) (kind : Kind) (m k l : Moment) (count t : ℕ) (tree : Splits) (s : Split) (f : SplitFault) → AreCut n kind m k count t tree → t < count
    → Run k l (cut s ∷ []) → IsReady l (cuts_left kind (count - (t + 1)))
    → Holds n tree.list s f → Halts (IsWrongSplitList n) m l (Refused (SplitAt t))
cut-wrong n kind m k l count t tree s f are lt run ready holds =
    let front : List Split = tree.list ++ s ∷ [] in
    let all = cut-run n kind m k l count t tree s are run in
    let long = one-more tree.list s t are.long in
    let here : split_at front t ≡ s = ap (λ (i : ℕ). split_at front i) (sym are.long) ∙ get_or-append_seam tree.list s [] no_split in
    let taken : AreTaken n front t tree = record { list = sym (ap (λ (i : ℕ). take i front) (sym are.long) ∙ take-append_seam tree.list (s ∷ [])); is = are.is } in
    record {
      kept = all.kept;
      quiet = inr all.quiet;
      cause = record {
        items = splits count ∷ map cut front;
        run = all;
        going = λ over. left-going (eqb (count - (t + 1)) 0) (states.Proofs kind) (states.Cut kind (count - (t + 1) - 1)) (λ e. cc) (λ e. cc) (sym ready.at ∙ over);
        used_up = ready.used_up;
        found = record {
          count = count;
          front = front;
          number = t;
          items_are = refl;
          few = omega (arith, long, lt);
          is = refl;
          first = wrong-next n front t tree f (omega (arith, long)) taken (subst (λ (x : Split). Holds n tree.list x f) (sym here) holds);
        };
      };
    }

pub cut-all : (n : Net) (kind : Kind) (m k : Moment) (count t : ℕ) (tree : Splits) → AreCut n kind m k count t tree → ¬ (t < count) → IsTaken (IsSplitList n kind) m k tree
cut-all n kind m k count t tree are over =
    let all : count - t ≡ 0 = let few = are.few in omega arith in
    let long : count ≡ length tree.list = let few = are.few in omega (arith, are.long) in
    record {
      items = splits (length tree.list) ∷ map cut tree.list;
      state = states.Proofs kind;
      run = subst (λ (i : ℕ). Run m k (splits i ∷ map cut tree.list)) long are.run;
      ready = subst (λ (i : ℕ). IsReady k (cuts_left kind i)) all are.ready;
      is = record { items_are = refl; is = are.is; next_is = refl };
    }
