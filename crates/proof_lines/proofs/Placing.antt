-- Lines that are read one after another, each in its place.
use Rattle.std.proofs.Common.{◌≡◌, ◌≢◌, ℕ, ◌+◌, ◌-◌, ◌<◌, ◌≤◌, inl, inr, eqb, List, [], ◌∷◌, ◌++◌, length, length-append, append_assoc, refl, sym, ap, subst, ◌∙◌, arith}
use Rattle.std.specs.Prelude.{map}
use Rattle.std.specs.List.{flat_map}
use Rattle.std.proofs.lemmas.List.{get_or_append_left, append-nil, map-append}
use Rattle.std.proofs.lemmas.List.Concat.{flat_map-append}
use Rattle.std.proofs.lemmas.Bool.{cases_lt}
use Rattle.std.proofs.Math.Seq.{get_or-append_seam}
use Rattle.row_model.specs.Multipliers.{Part}
use Rattle.row_model.specs.Trees.{Split, nodes}
use Rattle.cert_format.specs.Cert.{NodeProof}
use Rattle.cert_format.specs.Valid.{no_proof}
use Rattle.cert_stream.specs.Items.{Field, head, one_part, proof_items, claim_state, proofs_left, parts_left}
use Rattle.cert_format.specs.declared.reading.Kind.{Kind}
use Rattle.cert_format.specs.declared.reading.Kind.TheVariants as kinds
use Rattle.cert_items.specs.declared.items.State.{State}
use Rattle.cert_items.specs.declared.items.State.TheVariants as states
use Rattle.proof_lines.specs.declared.refusal.Refusal.TheVariants.{ProofPlace}
use Rattle.proof_lines.specs.declared.stream_refusal.StreamRefusal.TheVariants.{Refused}
use Rattle.proof_lines.specs.Lines.{ArePlacedTo, ArePartsSkipped, AreAllPlaced, IsLaterPlace}
use Rattle.proof_lines.specs.Refusals.{node_at}
use Rattle.proof_lines.specs.Runs.{Moment, Run, Halts, IsReady}
use Rattle.proof_lines.specs.Trees.{ArePlaced}
use Rattle.proof_lines.proofs.Lines.{placed-all}
use Rattle.proof_lines.proofs.States.{left-going}
use Rattle.proof_lines.proofs.Running.{run-none, run-then}

-- a line of a head and its parts
abbrev pub line_of : ℕ → ℕ → List Part → NodeProof
line_of node scale parts = record { node = node; proof = record { scale = scale; parts = parts } }

node-left : (lines : List NodeProof) (p : NodeProof) (j : ℕ) → j < length lines → node_at (lines ++ p ∷ []) j ≡ node_at lines j
node-left lines p j h = ap (λ (q : NodeProof). q.node) (get_or_append_left lines (p ∷ []) no_proof j h)

node-seam : (lines : List NodeProof) (p : NodeProof) → node_at (lines ++ p ∷ []) (length lines) ≡ p.node
node-seam lines p = ap (λ (q : NodeProof). q.node) (get_or-append_seam lines p [] no_proof)

pub one-line : (lines : List NodeProof) (p : NodeProof) → length (lines ++ p ∷ []) ≡ length lines + 1
one-line lines p = let one : length (p ∷ []) ≡ 1 = refl in omega (arith, one, length-append lines (p ∷ []))

pub placed-none : (list : List Split) → ArePlacedTo list [] 0
placed-none list = record { placed = λ j h. absurd (omega arith); none = λ e. refl; last = λ j e. absurd (omega arith) }

-- one line more, at the least node or above it
pub placed-more : (list : List Split) (lines : List NodeProof) (least : ℕ) (p : NodeProof) → ArePlacedTo list lines least → least ≤ p.node → p.node < nodes list
    → ArePlacedTo list (lines ++ p ∷ []) (p.node + 1)
placed-more list lines least p are up there =
    let long = one-line lines p in
    let seam = node-seam lines p in
    record {
      placed = λ j h. elim (cases_lt j (length lines)) [
        | inl inside ↦ let old = are.placed j inside in record {
          known = subst (λ (m : ℕ). m < nodes list) (sym (node-left lines p j inside)) old.known;
          above = λ i e. let at = old.above i e in omega (arith, at, node-left lines p j inside, node-left lines p i (omega arith));
        }
        | inr edge ↦
            let here : j ≡ length lines = omega (arith, h, long, edge) in
            let top : node_at (lines ++ p ∷ []) j ≡ p.node = ap (node_at (lines ++ p ∷ [])) here ∙ seam in
            record {
              known = subst (λ (m : ℕ). m < nodes list) (sym top) there;
              above = λ i e. let at = are.last i (e ∙ here) in omega (arith, at, top, up, node-left lines p i (omega arith));
            }
      ];
      none = λ e. absurd (omega (arith, e, long));
      last = λ j e. let here : j ≡ length lines = omega (arith, e, long) in ap (λ (m : ℕ). m + 1) (sym (ap (node_at (lines ++ p ∷ [])) here ∙ seam));
    }

-- a line below the least node, or of no node, is in no place
pub place-wrong : (list : List Split) (lines : List NodeProof) (least node : ℕ) → ArePlacedTo list lines least → ¬ ((least ≤ node) × (node < nodes list))
    → ¬ ((node < nodes list) × ((j : ℕ) → j + 1 ≡ length lines → node_at lines j < node))
place-wrong list lines least node are wrong is = wrong (
  elim (cases_lt 0 (length lines)) [
    | inl some ↦ let at = are.last (length lines - 1) (omega arith) in let above = is.1 (length lines - 1) (omega arith) in omega (arith, at, above)
    | inr none ↦ let z = are.none (omega arith) in omega (arith, z)
  ],
  is.0,
)

-- all lines are in their places
pub placed-whole : (list : List Split) (lines : List NodeProof) (least : ℕ) → ArePlacedTo list lines least → ArePlaced list lines
placed-whole list lines least are = placed-all list lines are.placed

-- ---- items

-- the items of a line more
pub line-run : (m k l : Moment) (lines : List NodeProof) (p : NodeProof) → Run m k (flat_map proof_items lines) → Run k l (proof_items p) → Run m l (flat_map proof_items (lines ++ p ∷ []))
line-run m k l lines p a b =
    let one : flat_map proof_items (p ∷ []) ≡ proof_items p = append-nil (proof_items p) in
    subst (Run m l) (sym (flat_map-append proof_items lines (p ∷ []) ∙ ap (λ (x : List Field). flat_map proof_items lines ++ x) one)) (run-then m k l (flat_map proof_items lines) (proof_items p) a b)

-- a head and its parts are a line
pub head-run : (k j l : Moment) (node scale count : ℕ) (parts : List Part) → length parts ≡ count → Run k j (head node scale count ∷ []) → Run j l (map one_part parts)
    → Run k l (proof_items (line_of node scale parts))
head-run k j l node scale count parts long a b =
    subst (λ (n : ℕ). Run k l (head node scale n ∷ map one_part parts)) (sym long) (run-then k j l (head node scale count ∷ []) (map one_part parts) a b)

-- ---- parts that are skipped

pub skipped-none : (m : Moment) (s next : State) → s ≡ next → IsReady m s → ArePartsSkipped 0 next m m
skipped-none m s next e ready = record { parts = []; run = run-none m ready.used_up; ready = subst (IsReady m) e ready; long = refl }

pub skipped-more : (m k l : Moment) (i : ℕ) (s next : State) (p : Part) → ArePartsSkipped i s m k → Run k l (one_part p ∷ []) → IsReady l next → ArePartsSkipped (i + 1) next m l
skipped-more m k l i s next p are run ready = record {
  parts = are.parts ++ p ∷ [];
  run = subst (λ (is : List Field). Run m l is) (sym (map-append one_part are.parts (p ∷ []))) (run-then m k l (map one_part are.parts) (one_part p ∷ []) are.run run);
  ready = ready;
  long = let one : length (p ∷ []) ≡ 1 = refl in omega (arith, are.long, one, length-append are.parts (p ∷ []));
}

-- ---- lines that are read for their places alone

-- the other lines up to a number were read, each in its place
pub record AreGone (list : List Split) (kind : Kind) (before : List NodeProof) (m j : Moment) (count k least : ℕ) : Type 0 where
  pub more : List NodeProof
  pub run : Run m j (flat_map proof_items more)
  pub ready : IsReady j (proofs_left kind (count - k))
  pub long : length (before ++ more) ≡ k
  pub placed : ArePlacedTo list (before ++ more) least

pub gone-none : (list : List Split) (kind : Kind) (before : List NodeProof) (m : Moment) (count k least : ℕ) → IsReady m (proofs_left kind (count - k)) → length before ≡ k
    → ArePlacedTo list before least → AreGone list kind before m m count k least
gone-none list kind before m count k least ready long placed = record {
  more = [];
  run = run-none m ready.used_up;
  ready = ready;
  long = ap length (append-nil before) ∙ long;
  placed = subst (λ (l : List NodeProof). ArePlacedTo list l least) (sym (append-nil before)) placed;
}

pub claim-going : (k : Kind) → claim_state k ≢ states.Ended
claim-going kinds.Gap = λ e. cc
claim-going kinds.Bound = λ e. cc
claim-going kinds.NoPlan = λ e. cc

pub proofs-going : (k : Kind) (n : ℕ) → proofs_left k n ≢ states.Ended
proofs-going k n = left-going (eqb n 0) (claim_state k) (states.Head k (n - 1)) (claim-going k) (λ e. cc)

pub parts-going : (k : Kind) (n behind : ℕ) → parts_left k n behind ≢ states.Ended
parts-going k n behind = left-going (eqb n 0) (proofs_left k behind) (states.Part k (n - 1) behind) (proofs-going k behind) (λ e. cc)

module _ (list : List Split) (kind : Kind) (before : List NodeProof) (m j h : Moment) (count k least node scale parts : ℕ) (are : AreGone list kind before m j count k least)
    (lt : k < count) (run : Run j h (head node scale parts ∷ [])) where
  pub gone-more : (l : Moment) (ps : List Part) → length ps ≡ parts → Run h l (map one_part ps) → IsReady l (proofs_left kind (count - (k + 1))) → least ≤ node
      → node < nodes list → AreGone list kind before m l count (k + 1) (node + 1)
  gone-more l ps long rest ready up there =
      let p = line_of node scale ps in
      let same : (before ++ are.more) ++ p ∷ [] ≡ before ++ (are.more ++ p ∷ []) = append_assoc before are.more (p ∷ []) in
      record {
        more = are.more ++ p ∷ [];
        run = line-run m j l are.more p are.run (head-run j h l node scale parts ps long run rest);
        ready = ready;
        long = ap length (sym same) ∙ one-line (before ++ are.more) p ∙ ap (λ (i : ℕ). i + 1) are.long;
        placed = subst (λ (x : List NodeProof). ArePlacedTo list x (node + 1)) same (placed-more list (before ++ are.more) least p are.placed up there);
      }

  pub gone-wrong : IsReady h (parts_left kind parts (count - (k + 1))) → ¬ ((least ≤ node) × (node < nodes list)) → Halts (IsLaterPlace list count before) m h (Refused (ProofPlace k))
  gone-wrong ready wrong =
      let all = run-then m j h (flat_map proof_items are.more) (head node scale parts ∷ []) are.run run in
      let out = place-wrong list (before ++ are.more) least node are.placed wrong in
      record {
        kept = all.kept;
        quiet = inr all.quiet;
        cause = record {
          items = flat_map proof_items are.more ++ head node scale parts ∷ [];
          run = all;
          going = λ over. parts-going kind parts (count - (k + 1)) (sym ready.at ∙ over);
          used_up = ready.used_up;
          found = record {
            number = k;
            is = refl;
            more = are.more;
            node = node;
            scale = scale;
            parts = parts;
            items_are = refl;
            long = are.long;
            there = lt;
            placed = λ i low. are.placed.placed i (omega (arith, low, are.long));
            wrong = λ x. out (x.0, λ i e. x.1 i (e ∙ are.long));
          };
        };
      }

pub gone-all : (list : List Split) (kind : Kind) (before : List NodeProof) (m j : Moment) (count least : ℕ) → AreGone list kind before m j count count least
    → AreAllPlaced list count (claim_state kind) before m j
gone-all list kind before m j count least are =
    let none : count - count ≡ 0 = omega arith in
    record {
      more = are.more;
      run = are.run;
      ready = subst (λ (i : ℕ). IsReady j (proofs_left kind i)) none are.ready;
      long = are.long;
      placed = placed-whole list (before ++ are.more) least are.placed;
    }
