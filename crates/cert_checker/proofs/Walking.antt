-- The parts of a certificate, put together as they are read.
use Rattle.std.proofs.Common.{◌≡◌, ◌≢◌, ℕ, ℤ, List, [], ◌∷◌, ◌++◌, length, Option, inr, refl, sym, ap, subst, ◌∙◌, append_assoc}
use Rattle.std.specs.Prelude.{map}
use Rattle.std.specs.List.{flat_map}
use Rattle.std.proofs.lemmas.List.{append-nil}
use Rattle.pool_model.specs.Network.{Net, counts_of}
use Rattle.pool_model.specs.Claim.{Claimed, with_gap, with_bound, no_plan}
use Rattle.cert_format.specs.Cert.{NodeProof, FitsShape, ClaimFits}
use Rattle.cert_format.specs.Views.{shown_claim}
use Rattle.cert_writing.specs.declared.certificate.Claim.{Claim}
use Rattle.cert_format.specs.declared.reading.Kind.{Kind}
use Rattle.split_tree.specs.Splits.{Splits, IsOf}
use Rattle.cert_stream.specs.declared.fault.ItemFault.{ItemFault}
use Rattle.cert_items.specs.declared.items.State.TheVariants as states
use Rattle.cert_stream.specs.Items.{Field, kind, shape, splits, cut, proofs, end_is, claimed_kind, plan_items, claimed_plan_items, proof_items}
use Rattle.cert_stream.specs.Items.{claim_items, items_of, claim_state, shaped_state}
use Rattle.cert_stream.specs.Streams.{IsAtEnd}
use Rattle.cert_checker.specs.declared.opening.Opening.{Opening}
use Rattle.cert_checker.specs.declared.opening.Opening.TheVariants as openings
use Rattle.proof_lines.specs.declared.refusal.Refusal.TheVariants.{Shape}
use Rattle.proof_lines.specs.declared.stream_refusal.StreamRefusal.{StreamRefusal}
use Rattle.proof_lines.specs.declared.stream_refusal.StreamRefusal.TheVariants.{Refused}
use Rattle.proof_lines.specs.Parts.{IsTaken, AreProofs, AreWrongProofs}
use Rattle.cert_checker.specs.Parts.{IsBegun, IsOpening, IsPlanned, IsWrongPlan, IsSplitList, IsWrongSplitList}
use Rattle.cert_checker.specs.Parts.{IsClaimOf, IsClaimRead, IsRefusedFront, IsWalked, opening_kind, opening_items, opening_cost}
use Rattle.proof_lines.specs.Runs.{Moment, Run, Failed, Halts, IsReady, of_fault}
use Rattle.proof_lines.specs.Trees.{IsBoundOf}
use Rattle.proof_lines.proofs.States.{shaped-going}
use Rattle.cert_checker.proofs.Fronts.{shape-front, plan-front, split-refused, line-refused, claim-cost}
use Rattle.proof_lines.proofs.Running.{run-then, halts-then, failed-then, failed-halts}

-- ---- the kind and the shape

-- the counts are others than the network's
pub shape-halts : (n : Net) (m j : Moment) (k : Kind) (sh : List ℕ) → Run m j (kind k ∷ shape sh ∷ []) → IsReady j (shaped_state k sh) → sh ≢ counts_of n
    → Halts (IsRefusedFront n) m j (Refused Shape)
shape-halts n m j k sh run ready other = record {
  kept = run.kept;
  quiet = inr run.quiet;
  cause = record {
    items = kind k ∷ shape sh ∷ [];
    run = run;
    going = λ over. shaped-going k sh (sym ready.at ∙ over);
    used_up = ready.used_up;
    found = shape-front n k sh other;
  };
}

pub begun : (n : Net) (m j : Moment) (k : Kind) (sh : List ℕ) → Run m j (kind k ∷ shape sh ∷ []) → IsReady j (shaped_state k sh)
    → sh ≡ counts_of n → IsTaken (IsBegun n) m j k
begun n m j k sh run ready same = record {
  items = kind k ∷ shape (counts_of n) ∷ [];
  state = shaped_state k (counts_of n);
  run = subst (λ (s : List ℕ). Run m j (kind k ∷ shape s ∷ [])) same run;
  ready = subst (λ (s : List ℕ). IsReady j (shaped_state k s)) same ready;
  is = record { items_are = refl; next_is = refl };
}

-- ---- the plan

-- the items up to the plan
abbrev up_to_plan : Net → Opening → List Field → List Field
up_to_plan n o more = kind (opening_kind o) ∷ shape (counts_of n) ∷ (opening_items o ++ more)

-- all up to the plan was read
pub record IsOpenTo (n : Net) (m l : Moment) (o : Opening) : Type 0 where
  pub planned : IsPlanned n o
  pub run : Run m l (up_to_plan n o [])
  pub ready : IsReady l (states.Splits (opening_kind o))

pub open-to : (n : Net) (m j l : Moment) (k : Kind) (o : Opening) → IsTaken (IsBegun n) m j k → IsTaken (IsOpening n k) j l o → IsOpenTo n m l o
open-to n m j l k o a b =
    let both : Run m l ((kind k ∷ shape (counts_of n) ∷ []) ++ opening_items o) = run-then m j l (kind k ∷ shape (counts_of n) ∷ []) (opening_items o)
    (subst (Run m j) a.is.items_are a.run) (subst (Run j l) b.is.items_are b.run) in
    record {
      planned = b.is.planned;
      run = subst (λ (i : Kind). Run m l (kind i ∷ shape (counts_of n) ∷ (opening_items o ++ []))) (sym b.is.kind_is)
          (subst (λ (x : List Field). Run m l (kind k ∷ shape (counts_of n) ∷ x)) (sym (append-nil (opening_items o))) both);
      ready = subst (IsReady l) (b.is.next_is ∙ ap states.Splits (sym b.is.kind_is)) b.ready;
    }

pub plan-refused-front : (n : Net) (m j l : Moment) (k : Kind) (r : StreamRefusal) → IsTaken (IsBegun n) m j k → Halts (IsWrongPlan n k) j l r → Halts (IsRefusedFront n) m l r
plan-refused-front n m j l k r a b =
    halts-then (IsWrongPlan n k) (IsRefusedFront n) m j l (kind k ∷ shape (counts_of n) ∷ []) r
    (plan-front n k) (subst (Run m j) a.is.items_are a.run) b

-- ---- the splits

module _ (n : Net) (m l : Moment) (o : Opening) (opened : IsOpenTo n m l o) where
  pub split-halts : (q : Moment) (r : StreamRefusal) → Halts (IsWrongSplitList n) l q r → Halts (IsRefusedFront n) m q r
  split-halts q r b =
      halts-then (IsWrongSplitList n) (IsRefusedFront n) m l q (up_to_plan n o []) r
      (λ items c w cert more is e. split-refused n o opened.planned items more c cert w is
      (e ∙ ap (λ (x : List Field). kind (opening_kind o) ∷ shape (counts_of n) ∷ x)
      (ap (λ (x : List Field). (x ++ items) ++ more) (append-nil (opening_items o)) ∙ append_assoc (opening_items o) items more))) opened.run b

-- the items of the splits
abbrev split_items : Splits → List Field
split_items tree = splits (length tree.list) ∷ map cut tree.list

-- all up to the splits was read
pub record IsCutTo (n : Net) (m q : Moment) (o : Opening) (tree : Splits) : Type 0 where
  pub planned : IsPlanned n o
  pub is : IsOf n tree
  pub run : Run m q (up_to_plan n o (split_items tree))
  pub ready : IsReady q (states.Proofs (opening_kind o))

pub cut-to : (n : Net) (m l q : Moment) (o : Opening) (tree : Splits) → IsOpenTo n m l o → IsTaken (IsSplitList n (opening_kind o)) l q tree → IsCutTo n m q o tree
cut-to n m l q o tree a b = record {
  planned = a.planned;
  is = b.is.is;
  run = subst (λ (x : List Field). Run m q (kind (opening_kind o) ∷ shape (counts_of n) ∷ (x ++ split_items tree))) (append-nil (opening_items o))
      (run-then m l q (up_to_plan n o []) (split_items tree) a.run (subst (Run l q) b.is.items_are b.run));
  ready = subst (IsReady q) b.is.next_is b.ready;
}

-- ---- the proofs

module _ (n : Net) (m q : Moment) (o : Opening) (tree : Splits) (done : IsCutTo n m q o tree) where
  -- the items of a longer front, in the order in which they come
  regroup : (items more : List Field) → ((opening_items o ++ split_items tree) ++ items) ++ more ≡ opening_items o ++ (split_items tree ++ (items ++ more))
  regroup items more = append_assoc (opening_items o ++ split_items tree) items more ∙ append_assoc (opening_items o) (split_items tree) (items ++ more)

  pub proof-halts : (h : Moment) (r : StreamRefusal) → Halts (AreWrongProofs n tree.list) q h r → Halts (IsRefusedFront n) m h r
  proof-halts h r b =
      halts-then (AreWrongProofs n tree.list) (IsRefusedFront n) m q h (up_to_plan n o (split_items tree)) r
      (λ items c w cert more is e. line-refused n o done.planned tree done.is w.count w.behind more c cert w.wrong is
      (e ∙ ap (λ (x : List Field). kind (opening_kind o) ∷ shape (counts_of n) ∷ x)
      (regroup items more ∙ ap (λ (x : List Field). opening_items o ++ (split_items tree ++ (x ++ more))) w.items_are))) done.run b

-- all up to the proofs was read
pub record IsProvedTo (n : Net) (m h : Moment) (o : Opening) (tree : Splits) (bound : Option ℤ) : Type 0 where
  pub planned : IsPlanned n o
  pub lines : List NodeProof
  pub is : IsBoundOf n tree.list lines bound
  pub run : Run m h (up_to_plan n o (split_items tree ++ proofs (length lines) ∷ flat_map proof_items lines))
  pub ready : IsReady h (claim_state (opening_kind o))

pub proved-to : (n : Net) (m q h : Moment) (o : Opening) (tree : Splits) (bound : Option ℤ) → IsCutTo n m q o tree
    → IsTaken (AreProofs n tree.list (opening_kind o)) q h bound → IsProvedTo n m h o tree bound
proved-to n m q h o tree bound a b =
    let items : List Field = proofs (length b.is.lines) ∷ flat_map proof_items b.is.lines in
    record {
      planned = a.planned;
      lines = b.is.lines;
      is = b.is.tree;
      run = subst (λ (x : List Field). Run m h (kind (opening_kind o) ∷ shape (counts_of n) ∷ x)) (append_assoc (opening_items o) (split_items tree) items)
          (run-then m q h (up_to_plan n o (split_items tree)) items a.run (subst (Run q h) b.is.items_are b.run));
      ready = subst (IsReady h) b.is.next_is b.ready;
    }

-- ---- the claim, and the end

claim-kind : (o : Opening) (claim : Claimed) → IsClaimOf o claim → claimed_kind claim ≡ opening_kind o
claim-kind (openings.Gap plan cost) (with_gap written num base bound gap) is = refl
claim-kind openings.Bound (with_bound bound) is = refl
claim-kind openings.NoPlan no_plan is = refl
claim-kind _ _ is = absurd is

claim-plan : (o : Opening) (claim : Claimed) → IsClaimOf o claim → claimed_plan_items claim ≡ opening_items o
claim-plan (openings.Gap plan cost) (with_gap written num base bound gap) is = ap plan_items is
claim-plan openings.Bound (with_bound bound) is = refl
claim-plan openings.NoPlan no_plan is = refl
claim-plan _ _ is = absurd is

claim-fits : (n : Net) (o : Opening) (claim : Claimed) → IsPlanned n o → IsClaimOf o claim → ClaimFits (counts_of n) claim
claim-fits n (openings.Gap plan cost) (with_gap written num base bound gap) planned is = subst (FitsShape (counts_of n)) (sym is) planned.0
claim-fits n openings.Bound (with_bound bound) planned is = tt
claim-fits n openings.NoPlan no_plan planned is = tt
claim-fits n _ _ planned is = absurd is

-- the items of a whole certificate, from its parts
whole-items : (n : Net) (o : Opening) (claim : Claimed) (tree : Splits) (lines : List NodeProof) → IsClaimOf o claim
    → kind (opening_kind o) ∷ shape (counts_of n) ∷ (((opening_items o ++ (split_items tree ++ proofs (length lines) ∷ flat_map proof_items lines)) ++ claim_items claim) ++ end_is ∷ [])
    ≡ items_of record { shape = counts_of n; claim = claim; splits = tree.list; proofs = lines }
whole-items n o claim tree lines is =
    let proved : List Field = proofs (length lines) ∷ flat_map proof_items lines in
    let last : List Field = claim_items claim ++ end_is ∷ [] in
    let tail : ((opening_items o ++ (split_items tree ++ proved)) ++ claim_items claim) ++ end_is ∷ [] ≡ opening_items o ++ (split_items tree ++ (proved ++ last)) =
    append_assoc (opening_items o ++ (split_items tree ++ proved)) (claim_items claim) (end_is ∷ []) ∙ append_assoc (opening_items o) (split_items tree ++ proved) last
    ∙ ap (λ (x : List Field). opening_items o ++ x) (append_assoc (split_items tree) proved last) in
    ap (λ (x : List Field). kind (opening_kind o) ∷ shape (counts_of n) ∷ x) tail
    ∙ ap (λ (x : List Field). kind (opening_kind o) ∷ shape (counts_of n) ∷ (x ++ (split_items tree ++ (proved ++ last)))) (sym (claim-plan o claim is))
    ∙ ap (λ (k : Kind). kind k ∷ shape (counts_of n) ∷ (claimed_plan_items claim ++ (split_items tree ++ (proved ++ last)))) (sym (claim-kind o claim is))

module _ (n : Net) (m h : Moment) (o : Opening) (tree : Splits) (bound : Option ℤ) (done : IsProvedTo n m h o tree bound) where
  pub claim-halts : (p : Moment) (fault : ItemFault) → Failed h p fault → Halts (IsRefusedFront n) m p (of_fault fault)
  claim-halts p fault why = failed-halts (IsRefusedFront n) m p fault (failed-then m h p _ fault done.run why)

  module _ (p : Moment) (claim : Claim) (read : IsClaimRead o h p claim) where
    claimed_run : Run m p (kind (opening_kind o) ∷ shape (counts_of n)
        ∷ ((opening_items o ++ (split_items tree ++ proofs (length done.lines) ∷ flat_map proof_items done.lines)) ++ claim_items (shown_claim claim)))
    claimed_run = run-then m h p _ (claim_items (shown_claim claim)) done.run read.run

    pub end-halts : (q : Moment) (fault : ItemFault) → Failed p q fault → Halts (IsRefusedFront n) m q (of_fault fault)
    end-halts q fault why = failed-halts (IsRefusedFront n) m q fault (failed-then m p q _ fault claimed_run why)

    pub walked : (q : Moment) → Run p q (end_is ∷ []) → q.reader.state ≡ states.Ended → IsAtEnd q.reader → IsWalked n m q record { claim = claim; cost = opening_cost o; bound = bound }
    walked q run over at_end = record {
      items = items_of record { shape = counts_of n; claim = shown_claim claim; splits = tree.list; proofs = done.lines };
      run = subst (Run m q) (whole-items n o (shown_claim claim) tree done.lines read.is) (run-then m p q _ (end_is ∷ []) claimed_run run);
      over = over;
      at_end = at_end;
      is = record {
        list = tree.list;
        lines = done.lines;
        items_are = refl;
        fits = claim-fits n o (shown_claim claim) done.planned read.is;
        cost_is = claim-cost n o (shown_claim claim) done.planned read.is;
        tree = done.is;
      };
    }
