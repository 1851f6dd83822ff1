-- The certificate of what was found is valid, and its numbers and lists are those of what it is made of.
use Rattle.std.proofs.Common.{◌≡◌, ℕ, suc, ◌*◌, ◌^◌, ◌<◌, ◌≤◌, List, length, get_or, Option, Some, None, ℤ, pos, negsuc, neg_ℤ, ◌-ℤ◌, ◌*ℤ◌, ◌≤ℤ◌}
use Rattle.std.proofs.Common.{unsigned_abs, FitsSigned, arith, refl, sym, ap, subst, ◌∙◌}
use Rattle.std.specs.Option.{ForSome}
use mir.Val.{to_z, of_z}
use Rattle.std.specs.Prelude.{IfErr, Result, Ok, Err, MatchOption, unwrap_or}
use Rattle.std.specs.Result.{IsOk}
use Rattle.std.specs.Int.{w128}
use Rattle.std.proofs.lemmas.Int.{ints, to_z-of_z, unsigned_abs-mul}
use Rattle.std.proofs.lemmas.Option.{none-some}
use Rattle.std.proofs.Math.Nat.{mul-le-mul}
use Rattle.pool_model.specs.Network.{Net, counts_of, IsLimited}
use Rattle.pool_model.specs.Plan.{Written, IsWritten, Obeys, cost_of, plan_of}
use Rattle.pool_model.specs.Claim.{Claimed, HasNoPlan, IsBound}
use Rattle.row_model.specs.Catalogue.{rows}
use Rattle.row_model.specs.Multipliers.{Proof}
use Rattle.row_model.specs.Trees.{Split, Tree, IsTree, nodes, tree_bound}
use Rattle.pool_model.specs.Starting.{reach_bound}
use Rattle.plan_core.specs.Faults.{IsCostOf, IsFirstFault}
use Rattle.plan_core.specs.declared.plan.Cost.{Cost}
use Rattle.plan_core.specs.declared.fault.PlanFault.{PlanFault}
use Rattle.row_model.specs.Entries.{Searched, IsSearched, improve, start}
use Rattle.box_tree.specs.declared.entry.EntryFault.TheVariants.{BadPlan}
use Rattle.box_tree.specs.Kept.{Kept, searched_of}
use Rattle.box_tree.proofs.Refusals.{bad-plan, refused}
use Rattle.row_model.proofs.Lowest.{AtLeast, tree-above}
use Rattle.row_book.proofs.Rising.{no_more}
use Rattle.cert_format.specs.Cert.{Cert, NodeProof, ClaimFits, IsShaped}
use Rattle.cert_format.specs.Valid.{IsShown, IsValid, tree_of}
use Rattle.tree_certificate.specs.Certificates.{cert_of, claim_of, node_proofs}
use Rattle.tree_certificate.proofs.Lines.{all_lines, few_lines, lines_rise, proofs_back}

none_there : (o : Option Proof) → ((p : Proof) → ¬ (o ≡ Some p)) → o ≡ None
none_there None h = refl
none_there (Some p) h = absurd (h p refl)

-- the certificate's tree is the search's
tree_back : (n : Net) (s : Searched) → IsTree n s.tree → tree_of (cert_of n s) ≡ s.tree
tree_back n s is =
    ap (λ (f : ℕ → Option Proof). record { splits = s.tree.splits; proof = f })
    (proofs_back s.tree.proof (nodes s.tree.splits) (λ node past. none_there (s.tree.proof node) (λ p e. absurd (omega (arith, past, is.placed node p e)))))

claim_shown : (n : Net) (tree : Tree) (best : Option Written) (b : Option ℤ) → tree_bound n tree ≡ b → ForSome best (IsWritten n) →
    ForSome best (λ w. Obeys n (plan_of n w)) → IsShown n tree (claim_of n best b)
claim_shown n tree best None e written obeys = e
claim_shown n tree None (Some z) e written obeys = e
claim_shown n tree (Some w) (Some z) e written obeys = record { written = written w refl; obeys = obeys w refl; cost_is = refl; base_is = refl; bound_is = e; gap_is = refl }

pub found_valid : (n : Net) (s : Searched) → IsLimited n → IsSearched n s → IsValid n (cert_of n s)
found_valid n s limited is =
    let back = sym (tree_back n s is.tree) in
    let count = nodes s.tree.splits in
    record {
      shape = refl;
      tree = subst (IsTree n) back is.tree;
      placed = all_lines (λ p. p.node < count) s.tree.proof count (λ node p lt e. lt);
      rising = lines_rise s.tree.proof count;
      claim = subst (λ (t : Tree). IsShown n t (claim_of n s.best (tree_bound n s.tree))) back (claim_shown n s.tree s.best (tree_bound n s.tree) refl is.written is.obeys);
    }

-- a proof in order has no more parts than there are rows
few_parts : (n : Net) (tree : Tree) (node : ℕ) (p : Proof) → rows n ≤ 13424 → IsTree n tree → tree.proof node ≡ Some p → length p.parts < 2 ^ 32
few_parts n tree node p few is e =
    let order = is.proofs node p e in
    omega (arith, few, no_more (λ i. (get_or p.parts i record { row = 0; mult = pos 0 }).row) (length p.parts) (rows n) order.rising (λ i lt. order.known i record { row = 0; mult = pos 0 } lt))

claim_fits : (n : Net) (best : Option Written) (b : Option ℤ) → ForSome best (IsWritten n) → ClaimFits (counts_of n) (claim_of n best b)
claim_fits n best None written = tt
claim_fits n None (Some z) written = tt
claim_fits n (Some w) (Some z) written = let is = written w refl in record { feeds = is.weights; outs = is.outflows; directs = is.direct }

pub found_shaped : (n : Net) (s : Searched) → rows n ≤ 13424 → IsSearched n s → IsShaped (cert_of n s)
found_shaped n s few is =
    let count = nodes s.tree.splits in
    record {
      claim = claim_fits n s.best (tree_bound n s.tree) is.written;
      splits = omega (arith, is.tree.few);
      proofs = omega (arith, is.tree.few, few_lines s.tree.proof count);
      parts = all_lines (λ p. length p.proof.parts < 2 ^ 32) s.tree.proof count (λ node p lt e. few_parts n s.tree node p few is.tree e);
    }

-- ---- what it is made of

pub cert_same : (c d : Cert) → c.shape ≡ d.shape → c.claim ≡ d.claim → c.splits ≡ d.splits → c.proofs ≡ d.proofs → c ≡ d
cert_same c d e f g h =
    ap (λ (x : List ℕ). record c { shape = x }) e
    ∙ ap (λ (x : Claimed). record { shape = d.shape; claim = x; splits = c.splits; proofs = c.proofs }) f
    ∙ ap (λ (x : List Split). record { shape = d.shape; claim = d.claim; splits = x; proofs = c.proofs }) g
    ∙ ap (λ (x : List NodeProof). record { shape = d.shape; claim = d.claim; splits = d.splits; proofs = x }) h

-- ---- sizes

-- a bound times a base has 125 bits: it is no greater than the cost, and no lower than the reach bound allows
product_small : (z num : ℤ) (b : ℕ) → neg_ℤ (pos (256 * 10 ^ 24)) ≤ℤ z → b ≤ 65536 * 1048576 → (z *ℤ pos b) ≤ℤ num → unsigned_abs num ≤ 2 ^ 124 → unsigned_abs (z *ℤ pos b) ≤ 2 ^ 124
product_small (pos k) num b low few above size = omega (arith, ints, above, size)
product_small (negsuc k) num b low few above size =
    let small : suc k ≤ 256 * 10 ^ 24 = omega (arith, ints, low) in
    let product : suc k * b ≤ 256 * 10 ^ 24 * (65536 * 1048576) = mul-le-mul small few in
    rw unsigned_abs-mul (omega (arith, product))

pub product_fits : (z num : ℤ) (b : ℕ) → neg_ℤ (pos (256 * 10 ^ 24)) ≤ℤ z → b ≤ 65536 * 1048576 → (z *ℤ pos b) ≤ℤ num → unsigned_abs num ≤ 2 ^ 124 → FitsSigned w128 (z *ℤ pos b)
product_fits z num b low few above size = omega (arith, ints, product_small z num b low few above size)

pub gap_fits : (z num : ℤ) (b : ℕ) → neg_ℤ (pos (256 * 10 ^ 24)) ≤ℤ z → b ≤ 65536 * 1048576 → (z *ℤ pos b) ≤ℤ num → unsigned_abs num ≤ 2 ^ 124 → FitsSigned w128 (num -ℤ z *ℤ pos b)
gap_fits z num b low few above size = omega (arith, ints, product_small z num b low few above size, size)

-- the same of numbers that are read
read_product : (z y : ℤ) (b : ℕ) → FitsSigned w128 z → y ≡ pos b → b ≤ 65536 * 1048576 → to_z w128 (of_z w128 z) *ℤ to_z w128 (of_z w128 y) ≡ z *ℤ pos b
read_product z y b fits e few =
    let base : FitsSigned w128 (pos b) = omega (arith, ints, few) in
    rw (to_z-of_z w128 z fits) (rw e (rw (to_z-of_z w128 (pos b) base) refl))

pub read_product_fits : (z num y : ℤ) (b : ℕ) → FitsSigned w128 z → y ≡ pos b → neg_ℤ (pos (256 * 10 ^ 24)) ≤ℤ z → b ≤ 65536 * 1048576 → (z *ℤ pos b) ≤ℤ num → unsigned_abs num ≤ 2 ^ 124
    → FitsSigned w128 (to_z w128 (of_z w128 z) *ℤ to_z w128 (of_z w128 y))
read_product_fits z num y b fits e low few above size = rw (read_product z y b fits e few) (product_fits z num b low few above size)

read_gap : (z num y : ℤ) (b : ℕ) → FitsSigned w128 num → FitsSigned w128 z → y ≡ pos b → neg_ℤ (pos (256 * 10 ^ 24)) ≤ℤ z → b ≤ 65536 * 1048576 → (z *ℤ pos b) ≤ℤ num → unsigned_abs num ≤ 2 ^ 124
    → to_z w128 (of_z w128 num) -ℤ to_z w128 (of_z w128 (to_z w128 (of_z w128 z) *ℤ to_z w128 (of_z w128 y))) ≡ num -ℤ z *ℤ pos b
read_gap z num y b wide fits e low few above size =
    rw (read_product z y b fits e few) (rw (to_z-of_z w128 num wide) (rw (to_z-of_z w128 (z *ℤ pos b) (product_fits z num b low few above size)) refl))

pub read_gap_fits : (z num y : ℤ) (b : ℕ) → FitsSigned w128 num → FitsSigned w128 z → y ≡ pos b → neg_ℤ (pos (256 * 10 ^ 24)) ≤ℤ z →
    b ≤ 65536 * 1048576 → (z *ℤ pos b) ≤ℤ num → unsigned_abs num ≤ 2 ^ 124
    → FitsSigned w128 (to_z w128 (of_z w128 num) -ℤ to_z w128 (of_z w128 (to_z w128 (of_z w128 z) *ℤ to_z w128 (of_z w128 y))))
read_gap_fits z num y b wide fits e low few above size = rw (read_gap z num y b wide fits e low few above size) (gap_fits z num b low few above size)

pub read_gap_is : (z num y : ℤ) (b : ℕ) → FitsSigned w128 num → FitsSigned w128 z → y ≡ pos b → neg_ℤ (pos (256 * 10 ^ 24)) ≤ℤ z →
    b ≤ 65536 * 1048576 → (z *ℤ pos b) ≤ℤ num → unsigned_abs num ≤ 2 ^ 124
    → to_z w128 (of_z w128 (to_z w128 (of_z w128 num) -ℤ to_z w128 (of_z w128 (to_z w128 (of_z w128 z) *ℤ to_z w128 (of_z w128 y))))) ≡ num -ℤ z *ℤ pos b
read_gap_is z num y b wide fits e low few above size =
    rw (read_gap z num y b wide fits e low few above size) (to_z-of_z w128 (num -ℤ z *ℤ pos b) (gap_fits z num b low few above size))

-- a plan that is written well and obeys is accepted
pub accepted : (n : Net) (w : Written) (r : Result Cost PlanFault) → IsWritten n w → Obeys n (plan_of n w) → IfErr r (IsFirstFault n w) → IsOk r
accepted n w (Ok cost) written obeys fault = refl
accepted n w (Err f) written obeys fault =
    absurd (refused n start (improve w) (BadPlan f) (bad-plan n start w f fault) record { written = written; obeys = obeys; cheaper = λ x e. absurd (none-some x e) })

-- a cost is above a bound that holds
pub above_bound : (n : Net) (w : Written) (c : Cost) (z : ℤ) → IsBound n z → IsCostOf n w c → (z *ℤ pos c.base) ≤ℤ c.num
above_bound n w c z holds cost = subst (λ (m : ℤ). (z *ℤ pos c.base) ≤ℤ m) (sym cost.num) (subst (λ (b : ℕ). (z *ℤ pos b) ≤ℤ cost_of n (plan_of n w)) (sym cost.base) (holds (plan_of n w) cost.obeys))

pub small_base : (n : Net) (w : Written) (c : Cost) → IsCostOf n w c → c.base ≤ 65536 * 1048576
small_base n w c cost = subst (λ (b : ℕ). b ≤ 65536 * 1048576) (sym cost.base) (mul-le-mul cost.written.flow_base.1 cost.written.base.1)

-- a tree's bound is no lower than the reach bound allows
low_of : (r z : ℤ) (m : ℕ) → unsigned_abs r ≤ m → r ≤ℤ z → neg_ℤ (pos m) ≤ℤ z
low_of r z m h k = omega (arith, ints, h, k)

pub tree_low : (n : Net) (tree : Tree) (b : Option ℤ) → unsigned_abs (reach_bound n) ≤ 256 * 10 ^ 24 → b ≡ tree_bound n tree → ForSome b (λ z. neg_ℤ (pos (256 * 10 ^ 24)) ≤ℤ z)
tree_low n tree b reach is z e = low_of (reach_bound n) z (256 * 10 ^ 24) reach (subst (AtLeast (reach_bound n)) (sym is ∙ e) (tree-above n tree))

-- a bound that holds, where there is one
pub held_bound : (n : Net) (o : Option ℤ) → MatchOption o (HasNoPlan n) (IsBound n) → ForSome o (IsBound n)
held_bound n None h z e = absurd (none-some z e)
held_bound n (Some x) h z e = subst (IsBound n) (ap (λ (o : Option ℤ). unwrap_or o x) e) h

-- ---- what the certificate is made of

pub found_cert : (n : Net) (k : Kept) (shape : List ℕ) (claim : Claimed) (best : Option Written) (bound : Option ℤ) (splits : List Split) (lines : List NodeProof) (held : List (Option Proof)) (m : ℕ)
    → shape ≡ counts_of n → claim ≡ claim_of n best bound → best ≡ k.best → bound ≡ tree_bound n (searched_of k).tree → splits ≡ k.splits.list
    → lines ≡ node_proofs (λ node. get_or held node None) m → m ≡ length held → held ≡ k.proofs → length k.proofs ≡ nodes k.splits.list
    → record { shape = shape; claim = claim; splits = splits; proofs = lines } ≡ cert_of n (searched_of k)
found_cert n k shape claim best bound splits lines held m counts claimed is_best is_bound is_splits are count is_held proved =
    cert_same record { shape = shape; claim = claim; splits = splits; proofs = lines } (cert_of n (searched_of k)) counts
    (claimed ∙ ap (λ (o : Option Written). claim_of n o bound) is_best ∙ ap (claim_of n k.best) is_bound) is_splits
    (are ∙ ap (node_proofs (λ node. get_or held node None)) (count ∙ ap (λ (x : List (Option Proof)). length x) is_held ∙ proved)
    ∙ ap (λ (x : List (Option Proof)). node_proofs (λ node. get_or x node None) (nodes k.splits.list)) is_held)
