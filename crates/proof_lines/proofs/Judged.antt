-- Lines that are read and judged one after another.
use Rattle.std.proofs.Common.{◌≡◌, ℕ, suc, ◌+◌, ◌-◌, ◌<◌, ◌≤◌, List, [], ◌∷◌, ◌++◌, length, get_or, Option, ℤ, Vec, Global, Result, Ok, Err, length-append}
use Rattle.std.proofs.Common.{append_assoc, inr, refl, sym, ap, subst, ◌∙◌, arith}
use Rattle.std.specs.Prelude.{map}
use Rattle.std.specs.List.{flat_map}
use Rattle.std.proofs.lemmas.List.{append-nil}
use Rattle.std.proofs.lemmas.List.Concat.{flat_map-append}
use Rattle.std.proofs.Math.Seq.{get_or-append_seam}
use Rattle.pool_model.specs.Network.{Net}
use Rattle.row_model.specs.Multipliers.{Part}
use Rattle.row_model.specs.Trees.{Split, nodes}
use Rattle.row_book.specs.Fitting.{Fits}
use Rattle.row_book.specs.declared.fault.ProofFault.{ProofFault}
use Rattle.cert_format.specs.Cert.{NodeProof}
use Rattle.cert_format.specs.Valid.{no_proof, IsRising}
use Rattle.cert_format.specs.declared.reading.Kind.{Kind}
use Rattle.cert_stream.specs.Items.{Field, head, one_part, proof_items, claim_state, proofs_left, parts_left}
use Rattle.proof_lines.specs.declared.judge.Judge.{Judge}
use Rattle.proof_lines.specs.declared.line_judge.LineJudge.{LineJudge}
use Rattle.proof_lines.specs.declared.refusal.Refusal.{Refusal}
use Rattle.proof_lines.specs.declared.refusal.Refusal.TheVariants.{ProofPlace, Proof as ProofOf, Memory as NoMemory}
use Rattle.proof_lines.specs.declared.stream_refusal.StreamRefusal.{StreamRefusal}
use Rattle.proof_lines.specs.declared.stream_refusal.StreamRefusal.TheVariants.{Refused}
use Rattle.proof_lines.specs.Refusals.{node_at}
use Rattle.proof_lines.specs.Judging.{AreJudged}
use Rattle.proof_lines.specs.Lines.{IsKept, IsNextLine, ArePlacedTo, AreLinesTaken, TakesLine, ReadsPlaces, IsLaterPlace}
use Rattle.proof_lines.specs.Parts.{IsTaken, IsLineList, IsWrongLineList}
use Rattle.proof_lines.specs.Runs.{Moment, Run, Halts, IsReady, of_refusal}
use Rattle.proof_lines.specs.Trees.{ArePlaced, IsProofRefusal, tree_with}
use Rattle.proof_lines.proofs.Placing.{line_of, one-line, placed-none, placed-more, place-wrong, line-run, head-run, parts-going, placed-whole, claim-going}
use Rattle.proof_lines.proofs.Raising.{judged-first}
use Rattle.proof_lines.proofs.Running.{run-none, run-then, halts-then}

pub lines-none : (n : Net) (list : List Split) (kind : Kind) (m : Moment) (count : ℕ) (judge : Judge) → IsReady m (proofs_left kind count) → judge.bounds.items ≡ []
    → judge.next ≡ 0 → Fits n judge.scratch → AreLinesTaken n list kind m m count 0 0 judge
lines-none n list kind m count judge ready none unread fits =
    let more : count ≡ count - 0 = omega arith in
    record {
      lines = [];
      run = run-none m ready.used_up;
      ready = subst (λ (i : ℕ). IsReady m (proofs_left kind i)) more ready;
      long = refl;
      placed = placed-none list;
      judged = λ all more e placed. judged-first n list all judge none unread fits;
    }

-- ---- a proof that is not in order

-- lines that are all in their places, of which one has a proof that is not in order
unproved : (n : Net) (list : List Split) (kind : Kind) (m q : Moment) (count : ℕ) (r : Refusal) (lines : List NodeProof) → Run m q (flat_map proof_items lines)
    → IsReady q (claim_state kind) → length lines ≡ count
    → ArePlaced list lines → IsProofRefusal n (tree_with list lines) r → Halts (IsWrongLineList n list count) m q (of_refusal r)
unproved n list kind m q count (ProofOf node fault) lines run ready long placed is = record {
  kept = run.kept;
  quiet = inr run.quiet;
  cause = record {
    items = flat_map proof_items lines;
    run = run;
    going = λ over. claim-going kind (sym ready.at ∙ over);
    used_up = ready.used_up;
    found = record { lines = lines; items_are = refl; long = long; placed = placed; wrong = is };
  };
}
unproved n list kind m q count NoMemory lines run ready long placed is = record { kept = run.kept; cause = tt; quiet = inr run.quiet }
unproved n list kind m q count _ lines run ready long placed is = absurd is

-- a line behind some that is not in its place
later-wrong : (n : Net) (list : List Split) (count : ℕ) (first : List NodeProof) (items : List Field) (c : Refusal) → IsLaterPlace list count first items c
    → IsWrongLineList n list count (flat_map proof_items first ++ items) c
later-wrong n list count first items c late = subst (λ (r : Refusal). IsWrongLineList n list count (flat_map proof_items first ++ items) r) (sym late.is) record {
  lines = first ++ late.more;
  node = late.node;
  scale = late.scale;
  parts = late.parts;
  items_are = ap (λ (x : List Field). flat_map proof_items first ++ x) late.items_are
      ∙ sym (append_assoc (flat_map proof_items first) (flat_map proof_items late.more) (head late.node late.scale late.parts ∷ []))
      ∙ ap (λ (x : List Field). x ++ head late.node late.scale late.parts ∷ []) (sym (flat_map-append proof_items first late.more));
  long = late.long;
  there = late.there;
  placed = late.placed;
  wrong = late.wrong;
}

-- the refusal of a line, unless one behind it is in no place or can't be read
abbrev pub OrElse : Net → List Split → ℕ → Moment → Moment → Refusal → Result (Unit {0}) StreamRefusal → Type 0
OrElse n list count m q r (Ok u) = Halts (IsWrongLineList n list count) m q (of_refusal r)
OrElse n list count m q r (Err s) = Halts (IsWrongLineList n list count) m q s

-- ---- all lines

-- all lines are taken, and the nodes behind the last are judged
pub lines-all : (n : Net) (list : List Split) (kind : Kind) (m q : Moment) (count least : ℕ) (before after : Judge) → AreLinesTaken n list kind m q count count least before
    → ((all : List NodeProof) → IsRising all → AreJudged n list all least before → (before.next < length all → nodes list ≤ node_at all before.next) → AreJudged n list all (nodes list) after)
    → before.next ≡ count → IsTaken (λ (v : Vec (Option ℤ) Global). IsLineList n list kind count v.items) m q after.bounds
lines-all n list kind m q count least before after are goes next =
    let placed = placed-whole list are.lines least are.placed in
    let judged = goes are.lines placed.rising (are.judged are.lines [] (sym (append-nil are.lines)) placed) (λ lt. absurd (omega (arith, lt, next, are.long))) in
    let none : count - count ≡ 0 = omega arith in
    record {
      items = flat_map proof_items are.lines;
      state = claim_state kind;
      run = are.run;
      ready = subst (λ (i : ℕ). IsReady q (proofs_left kind i)) none are.ready;
      is = record {
        lines = are.lines;
        items_are = refl;
        long = are.long;
        placed = placed;
        bounds_are = record { long = judged.long; bound_is = judged.bounds };
        proved = judged.proved;
        next_is = refl;
      };
    }

module _ (n : Net) (list : List Split) (kind : Kind) (m j h : Moment) (count k least node scale parts : ℕ) (judge : Judge)
    (are : AreLinesTaken n list kind m j count k least judge) (lt : k < count) (run : Run j h (head node scale parts ∷ [])) where
  -- the head of a line that is not in its place
  pub taken-wrong : IsReady h (parts_left kind parts (count - (k + 1))) → ¬ ((least ≤ node) × (node < nodes list)) → Halts (IsWrongLineList n list count) m h (Refused (ProofPlace k))
  taken-wrong ready wrong =
      let all = run-then m j h (flat_map proof_items are.lines) (head node scale parts ∷ []) are.run run in
      let out = place-wrong list are.lines least node are.placed wrong in
      record {
        kept = all.kept;
        quiet = inr all.quiet;
        cause = record {
          items = flat_map proof_items are.lines ++ head node scale parts ∷ [];
          run = all;
          going = λ over. parts-going kind parts (count - (k + 1)) (sym ready.at ∙ over);
          used_up = ready.used_up;
          found = record {
            lines = are.lines;
            node = node;
            scale = scale;
            parts = parts;
            items_are = refl;
            long = are.long;
            there = lt;
            placed = λ i low. are.placed.placed i (omega (arith, low, are.long));
            wrong = λ x. out (x.0, λ i e. x.1 i (e ∙ are.long));
          };
        };
      }

  module _ (l : Moment) (ps : List Part) (long : length ps ≡ parts) (rest : Run h l (map one_part ps)) (up : least ≤ node) (there : node < nodes list) where
    -- the line that was read
    abbrev line : NodeProof
    line = line_of node scale ps

    pub taken-placed : ArePlacedTo list (are.lines ++ line ∷ []) (node + 1)
    taken-placed = placed-more list are.lines least line are.placed up there

    pub taken-run : Run m l (flat_map proof_items (are.lines ++ line ∷ []))
    taken-run = line-run m j l are.lines line are.run (head-run j h l node scale parts ps long run rest)

    -- any list of lines that goes on with it has it next
    pub taken-next : (excess : Option ProofFault) (before : LineJudge) → before.judge ≡ judge → judge.next ≡ k → length judge.bounds.items ≡ least → IsKept n line.proof before.proof excess
        → (all more : List NodeProof) → all ≡ (are.lines ++ line ∷ []) ++ more → ArePlaced list all → IsNextLine n list node excess before all
    taken-next excess before same next bounds kept all more e placed =
        let parts_of : all ≡ are.lines ++ line ∷ more = e ∙ append_assoc are.lines (line ∷ []) more in
        let at : before.judge.next ≡ length are.lines = ap (λ (x : Judge). x.next) same ∙ next ∙ sym are.long in
        let there_is : length are.lines < length all = let one : length (line ∷ more) ≡ suc (length more) = refl in omega (arith, ap length parts_of, one, length-append are.lines (line ∷ more)) in
        record {
          rising = placed.rising;
          proof = line.proof;
          there = subst (λ (i : ℕ). i < length all) (sym at) there_is;
          line = ap (λ (i : ℕ). get_or all i no_proof) at ∙ ap (λ (x : List NodeProof). get_or x (length are.lines) no_proof) parts_of ∙ get_or-append_seam are.lines line more no_proof;
          kept = kept;
          judged = subst (λ (x : Judge). AreJudged n list all (length x.bounds.items) x) (sym same)
              (subst (λ (i : ℕ). AreJudged n list all i judge) (sym bounds) (are.judged all (line ∷ more) parts_of placed));
        }

    -- one line more is taken
    pub taken-more : (after : Judge) → IsReady l (proofs_left kind (count - (k + 1)))
        → ((all more : List NodeProof) → all ≡ (are.lines ++ line ∷ []) ++ more → ArePlaced list all → AreJudged n list all (node + 1) after)
        → AreLinesTaken n list kind m l count (k + 1) (node + 1) after
    taken-more after ready judged = record {
      lines = are.lines ++ line ∷ [];
      run = taken-run;
      ready = ready;
      long = one-line are.lines line ∙ ap (λ (i : ℕ). i + 1) are.long;
      placed = taken-placed;
      judged = judged;
    }

    -- its proof is not in order, and the lines behind it are read for their places
    pub taken-refused : (excess : Option ProofFault) (before after : LineJudge) (r : Refusal) (q : Moment) (x : Result (Unit {0}) StreamRefusal) → before.judge ≡ judge
        → judge.next ≡ k → length judge.bounds.items ≡ least → IsKept n line.proof before.proof excess
        → TakesLine n list node excess before after (Err r) → ReadsPlaces list count (claim_state kind) (are.lines ++ line ∷ []) l q x → OrElse n list count m q r x
    taken-refused excess before after r q (Ok u) same next bounds kept taken read =
        let all = (are.lines ++ line ∷ []) ++ read.more in
        let is = taken all (taken-next excess before same next bounds kept all read.more refl read.placed) in
        let run : Run m q (flat_map proof_items all) = subst (Run m q) (sym (flat_map-append proof_items (are.lines ++ line ∷ []) read.more))
        (run-then m l q (flat_map proof_items (are.lines ++ line ∷ [])) (flat_map proof_items read.more) taken-run read.run) in
        unproved n list kind m q count r all run read.ready read.long read.placed is
    taken-refused excess before after r q (Err s) same next bounds kept taken read =
        halts-then (IsLaterPlace list count (are.lines ++ line ∷ [])) (IsWrongLineList n list count) m l q (flat_map proof_items (are.lines ++ line ∷ [])) s
        (λ items c late. later-wrong n list count (are.lines ++ line ∷ []) items c late) taken-run read
