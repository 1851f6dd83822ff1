-- The items that come one after another are those of the certificate that is read as a whole.
use Rattle.std.proofs.Common.{◌≡◌, ◌≢◌, ℕ, zero, suc, ◌+◌, ◌-◌, ◌^◌, false, cond, eqb, List, [], ◌∷◌, ◌++◌, length, get_or, Some, Result, Ok, Err, refl, sym, ap, ◌∙◌, append_assoc, arith, inl, inr}
use Rattle.std.specs.Prelude.{codes, map}
use Rattle.std.specs.List.{flat_map}
use Rattle.std.proofs.lemmas.Bool.{ne_eqb}
use Rattle.std.proofs.lemmas.List.{append-nil}
use Rattle.pool_model.specs.Plan.{Written}
use Rattle.row_model.specs.Multipliers.{Part}
use Rattle.row_model.specs.Trees.{Split}
use Rattle.cert_text.specs.Lines.{line_feeds, IsFaultyLine}
use Rattle.cert_text.specs.declared.pieces.Ends.TheVariants.{Space, Line, LineIfZero}
use Rattle.cert_text.specs.Reading.{At, ◌>>=◌, start, ended, first_byte, first_of, word_at, same_at, each_at, end_of, ends_before, u32_at, u64_at, i128_at}
use Rattle.cert_text.proofs.Laws.{ok_is, bind_ok, bind_err, bind_assoc, whole_fault, done}
use Rattle.cert_format.specs.declared.reading.Kind.{Kind}
use Rattle.cert_format.specs.declared.reading.Kind.TheVariants as kinds
use Rattle.cert_items.specs.declared.items.State.{State}
use Rattle.cert_items.specs.declared.items.State.TheVariants as states
use Rattle.cert_format.specs.Cert.{Cert, NodeProof, IsCert}
use Rattle.cert_format.specs.Text.{text_of}
use Rattle.cert_format.specs.Reading.{Opened, with_plan, bound_alone, none, kind_at, shape_at, list_word_at, weights_at, flows_at, plan_at, opened_at}
use Rattle.cert_format.specs.Reading.{split_line_at, splits_at, part_at, proof_line_at, proofs_at, bound_at, gap_at, claim_at, cert_at}
use Rattle.cert_items.specs.Items.{Field, kind, shape, bases, weight, outflow, direct, splits, cut, proofs, head, one_part, cost_is, bound_is, gap_is, end_is}
use Rattle.cert_items.specs.Items.{plan_items, proof_items, items_of, claim_state, cuts_left, proofs_left, parts_left, directs_left}
use Rattle.cert_items.specs.Items.{direct_words_at, outflow_words_at, weight_words_at, begin_at, shape_step_at, bases_step_at, weight_step_at, outflow_step_at}
use Rattle.cert_items.specs.Items.{direct_step_at, head_step_at, claim_step_at, next_at, Gave}
use Rattle.cert_format.proofs.CertLaws.{cert_reads}

abbrev pub Read : Type 0
Read = Result (List Field × At) ℕ

-- these items, and those that are read then
abbrev pub prefixed : List Field → Read → Read
prefixed is r = r >>= λ q. Ok (is ++ q.0, q.1)

bind_same : {A B : Type 0} (r : Result A ℕ) (f g : A → Result B ℕ) → ((x : A) → f x ≡ g x) → (r >>= f) ≡ (r >>= g)
bind_same (Ok x) f g h = h x
bind_same (Err n) f g h = refl

no_items : (r : Read) → prefixed [] r ≡ r
no_items (Ok q) = refl
no_items (Err n) = refl

prefixed_twice : (is js : List Field) (r : Read) → prefixed is (prefixed js r) ≡ prefixed (is ++ js) r
prefixed_twice is js (Ok q) = ap (λ (ks : List Field). Ok (ks, q.1)) (sym (append_assoc is js q.0))
prefixed_twice is js (Err n) = refl

-- ---- what is read from a state on

abbrev end_rest : At → Read
end_rest a = word_at (codes "end\n") a >>= λ w. Ok (end_is ∷ [], w.1)

abbrev gap_rest : ℕ → At → Read
gap_rest b a = word_at (codes "gap ") a >>= λ w. i128_at Space w.1 >>= λ g. same_at (2 ^ 64 - 1) (end_of Line) b g.1 >>= λ s. prefixed (gap_is g.0 b ∷ []) (end_rest s.1)

abbrev gap_bound_rest : ℕ → At → Read
gap_bound_rest b a = bound_at a >>= λ d. prefixed (bound_is d.0 ∷ []) (gap_rest b d.1)

abbrev claim_rest : Kind → At → Read
claim_rest kinds.Gap a = word_at (codes "cost ") a >>= λ w. i128_at Space w.1 >>= λ c. u64_at Line c.1 >>= λ b. prefixed (cost_is c.0 b.0 ∷ []) (gap_bound_rest b.0 b.1)
claim_rest kinds.Bound a = bound_at a >>= λ d. prefixed (bound_is d.0 ∷ []) (end_rest d.1)
claim_rest kinds.NoPlan a = end_rest a

abbrev proofs_rest : Kind → ℕ → At → Read
proofs_rest k n a = each_at (λ _. proof_line_at) n a >>= λ s. prefixed (flat_map proof_items s.0) (claim_rest k s.1)

abbrev parts_rest : Kind → ℕ → ℕ → At → Read
parts_rest k n behind a = each_at part_at n a >>= λ s. prefixed (map one_part s.0) (proofs_rest k behind s.1)

abbrev proof_count_rest : Kind → At → Read
proof_count_rest k a = word_at (codes "proofs ") a >>= λ w. u32_at Line w.1 >>= λ n. prefixed (proofs n.0 ∷ []) (proofs_rest k n.0 n.1)

abbrev cuts_rest : Kind → ℕ → At → Read
cuts_rest k n a = each_at (λ _. split_line_at) n a >>= λ s. prefixed (map cut s.0) (proof_count_rest k s.1)

abbrev splits_rest : Kind → At → Read
splits_rest k a = word_at (codes "splits ") a >>= λ w. u32_at Line w.1 >>= λ n. prefixed (splits n.0 ∷ []) (cuts_rest k n.0 n.1)

abbrev directs_rest : ℕ → At → Read
directs_rest n a = each_at (λ k. u64_at (ends_before k)) n a >>= λ f. prefixed (map direct f.0) (splits_rest kinds.Gap f.1)

abbrev direct_words_rest : ℕ → At → Read
direct_words_rest n a = list_word_at (codes "direct") n a >>= λ w. directs_rest n w.1

abbrev outflows_rest : ℕ → ℕ → At → Read
outflows_rest n d a = each_at (λ k. u64_at (ends_before k)) n a >>= λ f. prefixed (map outflow f.0) (direct_words_rest d f.1)

abbrev outflow_words_rest : ℕ → ℕ → At → Read
outflow_words_rest n d a = list_word_at (codes "outflows") n a >>= λ w. outflows_rest n d w.1

abbrev weights_rest : ℕ → ℕ → ℕ → At → Read
weights_rest n o d a = each_at (λ k. u32_at (ends_before k)) n a >>= λ f. prefixed (map weight f.0) (outflow_words_rest o d f.1)

abbrev weight_words_rest : ℕ → ℕ → ℕ → At → Read
weight_words_rest n o d a = list_word_at (codes "weights") n a >>= λ w. weights_rest n o d w.1

abbrev bases_rest : ℕ → ℕ → ℕ → At → Read
bases_rest n o d a = word_at (codes "plan ") a >>= λ w. u32_at Space w.1 >>= λ b. u32_at Line b.1 >>= λ f. prefixed (bases b.0 f.0 ∷ []) (weight_words_rest n o d f.1)

-- behind a shape
abbrev shaped_rest : Kind → List ℕ → At → Read
shaped_rest kinds.Gap s a = bases_rest (get_or s 4 0) (get_or s 5 0) (get_or s 6 0) a
shaped_rest kinds.Bound s a = splits_rest kinds.Bound a
shaped_rest kinds.NoPlan s a = splits_rest kinds.NoPlan a

abbrev shape_rest : Kind → At → Read
shape_rest k a = shape_at a >>= λ s. prefixed (shape s.0 ∷ []) (shaped_rest k s.0 s.1)

abbrev begin_rest : At → Read
begin_rest a = word_at (codes "poolcert 1\n") a >>= λ w. kind_at w.1 >>= λ k. prefixed (kind k.0 ∷ []) (shape_rest k.0 k.1)

unfoldable pub rest_at : State → At → Read
rest_at states.Begin a = begin_rest a
rest_at (states.Shape k) a = shape_rest k a
rest_at (states.Bases n o d) a = bases_rest n o d a
rest_at (states.Weight n o d) a = weights_rest (suc n) o d a
rest_at (states.Outflow n d) a = outflows_rest (suc n) d a
rest_at (states.Direct n) a = directs_rest (suc n) a
rest_at (states.Splits k) a = splits_rest k a
rest_at (states.Cut k n) a = cuts_rest k (suc n) a
rest_at (states.Proofs k) a = proof_count_rest k a
rest_at (states.Head k n) a = proofs_rest k (suc n) a
rest_at (states.Part k n behind) a = parts_rest k (suc n) behind a
rest_at states.Cost a = claim_rest kinds.Gap a
rest_at (states.GapBound b) a = gap_bound_rest b a
rest_at (states.Gap b) a = gap_rest b a
rest_at states.Bound a = claim_rest kinds.Bound a
rest_at states.End a = end_rest a
rest_at states.Ended a = Ok ([], a)

-- ---- what comes behind a count

-- a count above 0, less the item that is read next
more_than_none : (n : ℕ) (x : State) (f : ℕ → State) → cond (eqb (suc n) 0) x (f (suc n - 1)) ≡ f n
more_than_none n x f = let e : eqb (suc n) 0 ≡ false = ne_eqb (suc n) 0 (λ h. omega arith) in let g : suc n - 1 ≡ n = omega arith in rw (e, g) refl

claim_state_rest : (k : Kind) (a : At) → rest_at (claim_state k) a ≡ claim_rest k a
unfolding rest_at
claim_state_rest kinds.Gap a = refl
claim_state_rest kinds.Bound a = refl
claim_state_rest kinds.NoPlan a = refl

proofs_left_rest : (k : Kind) (n : ℕ) (a : At) → rest_at (proofs_left k n) a ≡ proofs_rest k n a
unfolding rest_at each_at
proofs_left_rest k zero a = claim_state_rest k a ∙ sym (no_items (claim_rest k a))
proofs_left_rest k (suc n) a = ap (λ (s : State). rest_at s a) (more_than_none n (claim_state k) (states.Head k))

parts_left_rest : (k : Kind) (n behind : ℕ) (a : At) → rest_at (parts_left k n behind) a ≡ parts_rest k n behind a
unfolding rest_at each_at
parts_left_rest k zero behind a = proofs_left_rest k behind a ∙ sym (no_items (proofs_rest k behind a))
parts_left_rest k (suc n) behind a = ap (λ (s : State). rest_at s a) (more_than_none n (proofs_left k behind) (λ m. states.Part k m behind))

cuts_left_rest : (k : Kind) (n : ℕ) (a : At) → rest_at (cuts_left k n) a ≡ cuts_rest k n a
unfolding rest_at each_at
cuts_left_rest k zero a = sym (no_items (proof_count_rest k a))
cuts_left_rest k (suc n) a = ap (λ (s : State). rest_at s a) (more_than_none n (states.Proofs k) (states.Cut k))

directs_left_rest : (n : ℕ) (a : At) → rest_at (directs_left n) a ≡ directs_rest n a
unfolding rest_at each_at
directs_left_rest zero a = sym (no_items (splits_rest kinds.Gap a))
directs_left_rest (suc n) a = ap (λ (s : State). rest_at s a) (more_than_none n (states.Splits kinds.Gap) states.Direct)

abbrev got : {Y : Type 0} → Y → At → Result (Y × At) ℕ
got y b = Ok (y, b)

-- ---- the words before a list of flows, and what comes behind them

-- what is read from where a state was found
abbrev from_state : Result (State × At) ℕ → Read
from_state r = r >>= λ s. rest_at s.0 s.1

direct_words_to : (n : ℕ) (a : At) → from_state (direct_words_at n a) ≡ direct_words_rest n a
unfolding direct_words_at
direct_words_to n a = bind_assoc (list_word_at (codes "direct") n a) _ _ ∙ bind_same (list_word_at (codes "direct") n a) _ _ (λ w. directs_left_rest n w.1)

-- the outflows that are left, and what comes behind them
outflows_to : (n d : ℕ) (a : At) → from_state (cond (eqb n 0) (direct_words_at d a) (got (states.Outflow (n - 1) d) a)) ≡ outflows_rest n d a
unfolding rest_at each_at
outflows_to zero d a = direct_words_to d a ∙ sym (no_items (direct_words_rest d a))
outflows_to (suc n) d a = let e : eqb (suc n) 0 ≡ false = ne_eqb (suc n) 0 (λ h. omega arith) in let g : suc n - 1 ≡ n = omega arith in rw (e, g) refl

outflow_words_to : (n d : ℕ) (a : At) → from_state (outflow_words_at n d a) ≡ outflow_words_rest n d a
unfolding outflow_words_at
outflow_words_to n d a = bind_assoc (list_word_at (codes "outflows") n a) _ _ ∙ bind_same (list_word_at (codes "outflows") n a) _ _ (λ w. outflows_to n d w.1)

-- the weights that are left, and what comes behind them
weights_to : (n o d : ℕ) (a : At) → from_state (cond (eqb n 0) (outflow_words_at o d a) (got (states.Weight (n - 1) o d) a)) ≡ weights_rest n o d a
unfolding rest_at each_at
weights_to zero o d a = outflow_words_to o d a ∙ sym (no_items (outflow_words_rest o d a))
weights_to (suc n) o d a = let e : eqb (suc n) 0 ≡ false = ne_eqb (suc n) 0 (λ h. omega arith) in let g : suc n - 1 ≡ n = omega arith in rw (e, g) refl

weight_words_to : (n o d : ℕ) (a : At) → from_state (weight_words_at n o d a) ≡ weight_words_rest n o d a
unfolding weight_words_at
weight_words_to n o d a = bind_assoc (list_word_at (codes "weights") n a) _ _ ∙ bind_same (list_word_at (codes "weights") n a) _ _ (λ w. weights_to n o d w.1)

-- ---- one item of a count

-- one of a count, and the others
one_of : {X : Type 0} (r : ℕ → At → Result (X × At) ℕ) (item : X → List Field) (next : At → Read) (n : ℕ) (a : At)
    → (each_at r (suc n) a >>= λ s. prefixed (flat_map item s.0) (next s.1)) ≡ (r n a >>= λ x. prefixed (item x.0) (each_at r n x.1 >>= λ s. prefixed (flat_map item s.0) (next s.1)))
unfolding each_at
one_of {X} r item next n a = bind_assoc (r n a) _ _ ∙ bind_same (r n a) _ _ (λ x. inner x.0 (each_at r n x.1))
  where
    inner : (x : X) (q : Result (List X × At) ℕ) → ((q >>= λ xs. got (x ∷ xs.0) xs.1) >>= λ s. prefixed (flat_map item s.0) (next s.1)) ≡ prefixed
        (item x) (q >>= λ s. prefixed (flat_map item s.0) (next s.1))
    inner x (Ok xs) = sym (prefixed_twice (item x) (flat_map item xs.0) (next xs.1))
    inner x (Err n) = refl

-- the same where each is one item
one_by_one : {X : Type 0} (r : ℕ → At → Result (X × At) ℕ) (item : X → Field) (next : At → Read) (n : ℕ) (a : At)
    → (each_at r (suc n) a >>= λ s. prefixed (map item s.0) (next s.1)) ≡ (r n a >>= λ x. prefixed (item x.0 ∷ []) (each_at r n x.1 >>= λ s. prefixed (map item s.0) (next s.1)))
unfolding each_at
one_by_one {X} r item next n a = bind_assoc (r n a) _ _ ∙ bind_same (r n a) _ _ (λ x. inner x.0 (each_at r n x.1))
  where
    inner : (x : X) (q : Result (List X × At) ℕ) → ((q >>= λ xs. got (x ∷ xs.0) xs.1) >>= λ s. prefixed (map item s.0) (next s.1)) ≡ prefixed
        (item x ∷ []) (q >>= λ s. prefixed (map item s.0) (next s.1))
    inner x (Ok xs) = sym (prefixed_twice (item x ∷ []) (map item xs.0) (next xs.1))
    inner x (Err n) = refl

-- as many items are read as were asked for
each_length : {X : Type 0} (r : ℕ → At → Result (X × At) ℕ) (n : ℕ) (a : At) (p : List X × At) → each_at r n a ≡ Ok p → length p.0 ≡ n
unfolding each_at
each_length {X} r zero a p e = ap (λ (q : List X × At). length q.0) (sym (ok_is ([], a) p e))
each_length {X} r (suc n) a p e =
    let m = bind_ok (r n a) (λ x. each_at r n x.1 >>= λ xs. got (x.0 ∷ xs.0) xs.1) p e in
    let k = bind_ok (each_at r n m.0.1) (λ xs. got (m.0.0 ∷ xs.0) xs.1) p m.2 in
    ap (λ (q : List X × At). length q.0) (sym (ok_is (m.0.0 ∷ k.0.0, k.0.1) p k.2)) ∙ ap suc (each_length r n m.0.1 k.0 k.1)

-- ---- a step

-- the item of a step, and what is read behind it
abbrev stepped : Result ((Field × State) × At) ℕ → Read
stepped r = r >>= λ p. prefixed (p.0.0 ∷ []) (rest_at p.0.1 p.1)

bind_in : {B : Type 0} (r : Result B ℕ) (g : B → Read) (f : B → Result ((Field × State) × At) ℕ) → ((x : B) → r ≡ Ok x → g x ≡ stepped (f x)) → (r >>= g) ≡ stepped (r >>= f)
bind_in (Ok x) g f h = h x refl
bind_in (Err n) g f h = refl

-- an item, and a state that was found behind it
found_step : (i : Field) (r : Result (State × At) ℕ) (rest : Read) → from_state r ≡ rest → prefixed (i ∷ []) rest ≡ stepped (r >>= λ next. Ok ((i, next.0), next.1))
found_step i (Ok s) rest e = ap (prefixed (i ∷ [])) (sym e)
found_step i (Err n) rest e = ap (prefixed (i ∷ [])) (sym e)

-- the items of a proof, of which the first is known
head_parts : (k : Kind) (n : ℕ) (node scale count : ℕ) (a : At)
    → ((each_at part_at count a >>= λ parts. got (record { node = node; proof = record { scale = scale; parts = parts.0 } }) parts.1) >>= λ x. prefixed (proof_items x.0) (proofs_rest k n x.1))
    ≡ prefixed (head node scale count ∷ []) (parts_rest k count n a)
head_parts k n node scale count a = by_parts (each_at part_at count a) (λ p e. each_length part_at count a p e)
  where
    by_parts : (r : Result (List Part × At) ℕ) → ((p : List Part × At) → r ≡ Ok p → length p.0 ≡ count)
        → ((r >>= λ parts. got (record { node = node; proof = record { scale = scale; parts = parts.0 } }) parts.1) >>= λ x. prefixed (proof_items x.0) (proofs_rest k n x.1))
        ≡ prefixed (head node scale count ∷ []) (r >>= λ s. prefixed (map one_part s.0) (proofs_rest k n s.1))
    by_parts (Ok p) long = ap (λ (m : ℕ). prefixed (head node scale m ∷ map one_part p.0) (proofs_rest k n p.1)) (long p refl)
        ∙ sym (prefixed_twice (head node scale count ∷ []) (map one_part p.0) (proofs_rest k n p.1))
    by_parts (Err e) long = refl

-- a reader in two parts, one in the other
bind_first : {A B : Type 0} (r : Result A ℕ) (f : A → Result B ℕ) (g : B → Read) (h : A → Read) → ((x : A) → (f x >>= g) ≡ h x) → ((r >>= f) >>= g) ≡ (r >>= h)
bind_first (Ok x) f g h e = e x
bind_first (Err n) f g h e = refl

head_step : (k : Kind) (n : ℕ) (a : At) → proofs_rest k (suc n) a ≡ stepped (head_step_at k n a)
unfolding head_step_at proof_line_at rest_at
head_step k n a =
    one_of (λ _. proof_line_at) proof_items (claim_rest k) n a
    ∙ bind_first (word_at (codes "proof ") a) _ _ (λ w. u32_at Space w.1 >>= λ node. u64_at Space node.1 >>= λ scale. u32_at LineIfZero scale.1 >>=
    λ count. prefixed (head node.0 scale.0 count.0 ∷ []) (parts_rest k count.0 n count.1))
    (λ w. bind_first (u32_at Space w.1) _ _ (λ node. u64_at Space node.1 >>= λ scale. u32_at LineIfZero scale.1 >>= λ count. prefixed
    (head node.0 scale.0 count.0 ∷ []) (parts_rest k count.0 n count.1))
    (λ node. bind_first (u64_at Space node.1) _ _ (λ scale. u32_at LineIfZero scale.1 >>= λ count. prefixed (head node.0 scale.0 count.0 ∷ []) (parts_rest k count.0 n count.1))
    (λ scale. bind_first (u32_at LineIfZero scale.1) _ _ (λ count. prefixed (head node.0 scale.0 count.0 ∷ []) (parts_rest k count.0 n count.1))
    (λ count. head_parts k n node.0 scale.0 count.0 count.1))))
    ∙ bind_in (word_at (codes "proof ") a) _ _ (λ w _. bind_in (u32_at Space w.1) _ _ (λ node _. bind_in (u64_at Space node.1) _ _ (λ scale _. bind_in (u32_at LineIfZero scale.1) _ _ (λ count _.
    ap (prefixed (head node.0 scale.0 count.0 ∷ [])) (sym (parts_left_rest k count.0 n count.1))))))

pub one_step : (s : State) (a : At) → s ≢ states.Ended → rest_at s a ≡ stepped (next_at s a)
unfolding rest_at next_at begin_at shape_step_at bases_step_at weight_step_at outflow_step_at direct_step_at claim_step_at
one_step states.Begin a h = bind_in (word_at (codes "poolcert 1\n") a) _ _ (λ w _. bind_in (kind_at w.1) _ _ (λ k _. refl))
one_step (states.Shape kinds.Gap) a h = bind_in (shape_at a) _ _ (λ s _. refl)
one_step (states.Shape kinds.Bound) a h = bind_in (shape_at a) _ _ (λ s _. refl)
one_step (states.Shape kinds.NoPlan) a h = bind_in (shape_at a) _ _ (λ s _. refl)
one_step (states.Bases n o d) a h = bind_in (word_at (codes "plan ") a) _ _ (λ w _. bind_in (u32_at Space w.1) _ _ (λ b _. bind_in (u32_at Line b.1) _ _ (λ f _.
    found_step (bases b.0 f.0) (weight_words_at n o d f.1) (weight_words_rest n o d f.1) (weight_words_to n o d f.1))))
one_step (states.Weight n o d) a h =
    one_by_one (λ k. u32_at (ends_before k)) weight (outflow_words_rest o d) n a
    ∙ bind_in (u32_at (ends_before n) a) _ _ (λ x _. found_step (weight x.0)
    (cond (eqb n 0) (outflow_words_at o d x.1) (got (states.Weight (n - 1) o d) x.1)) (weights_rest n o d x.1) (weights_to n o d x.1))
one_step (states.Outflow n d) a h =
    one_by_one (λ k. u64_at (ends_before k)) outflow (direct_words_rest d) n a
    ∙ bind_in (u64_at (ends_before n) a) _ _ (λ x _. found_step (outflow x.0)
    (cond (eqb n 0) (direct_words_at d x.1) (got (states.Outflow (n - 1) d) x.1)) (outflows_rest n d x.1) (outflows_to n d x.1))
one_step (states.Direct n) a h =
    one_by_one (λ k. u64_at (ends_before k)) direct (splits_rest kinds.Gap) n a
    ∙ bind_in (u64_at (ends_before n) a) _ _ (λ x _. ap (prefixed (direct x.0 ∷ [])) (sym (directs_left_rest n x.1)))
one_step (states.Splits k) a h = bind_in (word_at (codes "splits ") a) _ _ (λ w _. bind_in (u32_at Line w.1) _ _ (λ n _. ap (prefixed (splits n.0 ∷ [])) (sym (cuts_left_rest k n.0 n.1))))
one_step (states.Cut k n) a h =
    one_by_one (λ _. split_line_at) cut (proof_count_rest k) n a
    ∙ bind_in (split_line_at a) _ _ (λ x _. ap (prefixed (cut x.0 ∷ [])) (sym (cuts_left_rest k n x.1)))
one_step (states.Proofs k) a h = bind_in (word_at (codes "proofs ") a) _ _ (λ w _. bind_in (u32_at Line w.1) _ _ (λ n _. ap (prefixed (proofs n.0 ∷ [])) (sym (proofs_left_rest k n.0 n.1))))
one_step (states.Head k n) a h = head_step k n a
one_step (states.Part k n behind) a h =
    one_by_one part_at one_part (proofs_rest k behind) n a
    ∙ bind_in (part_at n a) _ _ (λ x _. ap (prefixed (one_part x.0 ∷ [])) (sym (parts_left_rest k n behind x.1)))
one_step states.Cost a h = bind_in (word_at (codes "cost ") a) _ _ (λ w _. bind_in (i128_at Space w.1) _ _ (λ c _. bind_in (u64_at Line c.1) _ _ (λ b _. refl)))
one_step (states.GapBound b) a h = bind_in (bound_at a) _ _ (λ d _. refl)
one_step (states.Gap b) a h = bind_in (word_at (codes "gap ") a) _ _ (λ w _. bind_in (i128_at Space w.1) _ _ (λ g _. bind_in (same_at (2 ^ 64 - 1) (end_of Line) b g.1) _ _ (λ s _. refl)))
one_step states.Bound a h = bind_in (bound_at a) _ _ (λ d _. refl)
one_step states.End a h = bind_in (word_at (codes "end\n") a) _ _ (λ w _. refl)
one_step states.Ended a h = absurd (h refl)

-- ---- the items of the certificate

-- a certificate that was read, as its items
abbrev as_items : Result (Cert × At) ℕ → Read
as_items r = r >>= λ c. Ok (items_of c.0, c.1)

bind_out : {B : Type 0} (r : Result B ℕ) (f : B → Result (Cert × At) ℕ) (is : List Field) (g : B → Read) →
    ((x : B) → r ≡ Ok x → as_items (f x) ≡ prefixed is (g x)) → as_items (r >>= f) ≡ prefixed is (r >>= g)
bind_out (Ok x) f is g h = h x refl
bind_out (Err n) f is g h = refl

-- the same where the first reader is two
bind_out_first : {A B : Type 0} (r : Result A ℕ) (q : A → Result B ℕ) (f : B → Result (Cert × At) ℕ) (is : List Field) (g : A → Read)
    → ((x : A) → r ≡ Ok x → as_items (q x >>= f) ≡ prefixed is (g x)) → as_items ((r >>= q) >>= f) ≡ prefixed is (r >>= g)
bind_out_first (Ok x) q f is g h = h x refl
bind_out_first (Err n) q f is g h = refl

-- the kind of what is opened
abbrev opened_kind : Opened → Kind
opened_kind (with_plan p) = kinds.Gap
opened_kind bound_alone = kinds.Bound
opened_kind none = kinds.NoPlan

abbrev opened_items : Opened → List Field
opened_items (with_plan p) = plan_items p
opened_items bound_alone = []
opened_items none = []

-- the items before the splits, before the proofs, and before the claim
abbrev opened_front : Opened → List ℕ → List Field
opened_front o sh = kind (opened_kind o) ∷ shape sh ∷ opened_items o

abbrev cuts_front : Opened → List ℕ → List Split → List Field
cuts_front o sh ss = opened_front o sh ++ (splits (length ss) ∷ map cut ss)

abbrev proofs_front : Opened → List ℕ → List Split → List NodeProof → List Field
proofs_front o sh ss ps = cuts_front o sh ss ++ (proofs (length ps) ∷ flat_map proof_items ps)

-- what is read behind the proofs
abbrev tail_at : List ℕ → Opened → List Split → List NodeProof → At → Result (Cert × At) ℕ
tail_at sh o ss ps a = claim_at o a >>= λ cl. word_at (codes "end\n") cl.1 >>= λ e. Ok (record { shape = sh; claim = cl.0; splits = ss; proofs = ps }, e.1)

claim_part : (o : Opened) (sh : List ℕ) (ss : List Split) (ps : List NodeProof) (a : At) → as_items (tail_at sh o ss ps a) ≡ prefixed (proofs_front o sh ss ps) (claim_rest (opened_kind o) a)
unfolding claim_at gap_at
claim_part (with_plan p) sh ss ps a = simp (bind_assoc, append_assoc)
claim_part bound_alone sh ss ps a = simp (bind_assoc, append_assoc)
claim_part none sh ss ps a = simp (bind_assoc, append_assoc)

proofs_part : (o : Opened) (sh : List ℕ) (ss : List Split) (a : At) → as_items (proofs_at a >>= λ ps. tail_at sh o ss ps.0 ps.1) ≡ prefixed (cuts_front o sh ss) (proof_count_rest (opened_kind o) a)
unfolding proofs_at
proofs_part o sh ss a =
    bind_out_first (word_at (codes "proofs ") a) _ _ (cuts_front o sh ss) _ (λ w _. bind_out_first (u32_at Line w.1) _ _ (cuts_front o sh ss) _ (λ n _.
    bind_out (each_at (λ _. proof_line_at) n.0 n.1) _ (cuts_front o sh ss) (λ s. prefixed (proofs n.0 ∷ []) (prefixed (flat_map proof_items s.0) (claim_rest (opened_kind o) s.1))) (λ s e.
    let long : length s.0 ≡ n.0 = each_length (λ _. proof_line_at) n.0 n.1 s e in
    claim_part o sh ss s.0 s.1
    ∙ ap (λ (m : ℕ). prefixed (cuts_front o sh ss ++ (proofs m ∷ flat_map proof_items s.0)) (claim_rest (opened_kind o) s.1)) long
    ∙ sym (ap (prefixed (cuts_front o sh ss)) (prefixed_twice (proofs n.0 ∷ []) (flat_map proof_items s.0) (claim_rest (opened_kind o) s.1))
    ∙ prefixed_twice (cuts_front o sh ss) (proofs n.0 ∷ flat_map proof_items s.0) (claim_rest (opened_kind o) s.1)))
    ∙ ap (prefixed (cuts_front o sh ss)) (sym (bind_assoc (each_at (λ _. proof_line_at) n.0 n.1) _ _))))

splits_part : (o : Opened) (sh : List ℕ) (a : At) → as_items (splits_at a >>= λ ss. proofs_at ss.1 >>= λ ps. tail_at sh o ss.0 ps.0 ps.1) ≡ prefixed (opened_front o sh) (splits_rest (opened_kind o) a)
unfolding splits_at
splits_part o sh a =
    bind_out_first (word_at (codes "splits ") a) _ _ (opened_front o sh) _ (λ w _. bind_out_first (u32_at Line w.1) _ _ (opened_front o sh) _ (λ n _.
    bind_out (each_at (λ _. split_line_at) n.0 n.1) _ (opened_front o sh) (λ s. prefixed (splits n.0 ∷ []) (prefixed (map cut s.0) (proof_count_rest (opened_kind o) s.1))) (λ s e.
    let long : length s.0 ≡ n.0 = each_length (λ _. split_line_at) n.0 n.1 s e in
    proofs_part o sh s.0 s.1
    ∙ ap (λ (m : ℕ). prefixed (opened_front o sh ++ (splits m ∷ map cut s.0)) (proof_count_rest (opened_kind o) s.1)) long
    ∙ sym (ap (prefixed (opened_front o sh)) (prefixed_twice (splits n.0 ∷ []) (map cut s.0) (proof_count_rest (opened_kind o) s.1))
    ∙ prefixed_twice (opened_front o sh) (splits n.0 ∷ map cut s.0) (proof_count_rest (opened_kind o) s.1)))
    ∙ ap (prefixed (opened_front o sh)) (sym (bind_assoc (each_at (λ _. split_line_at) n.0 n.1) _ _))))

-- a word, so many things behind it, and what is read behind them
list_part : {X B : Type 0} (item : X → Field) (word : Result (Unit {0} × At) ℕ) (each : Unit {0} × At → Result (List X × At) ℕ) (q : List X × At → Result B ℕ)
    (f : B → Result (Cert × At) ℕ) (is : List Field) (next : At → Read) → ((xs : List X × At) → as_items (q xs >>= f) ≡ prefixed (is ++ map item xs.0) (next xs.1))
    → as_items (((word >>= each) >>= q) >>= f) ≡ prefixed is (word >>= λ w. each w >>= λ xs. prefixed (map item xs.0) (next xs.1))
list_part item (Err n) each q f is next h = refl
list_part {X} {B} item (Ok w) each q f is next h = by_each (each w)
  where
    by_each : (r : Result (List X × At) ℕ) → as_items ((r >>= q) >>= f) ≡ prefixed is (r >>= λ xs. prefixed (map item xs.0) (next xs.1))
    by_each (Ok xs) = h xs ∙ sym (prefixed_twice is (map item xs.0) (next xs.1))
    by_each (Err n) = refl

-- what is read behind the plan
abbrev after_plan : List ℕ → Opened × At → Result (Cert × At) ℕ
after_plan sh o = splits_at o.1 >>= λ ss. proofs_at ss.1 >>= λ ps. tail_at sh o.0 ss.0 ps.0 ps.1

abbrev plan_is : ℕ → ℕ → List ℕ → List ℕ → List ℕ → Written
plan_is b f ws os ds = record { base = b; flow_base = f; weights = ws; outflows = os; direct = ds }

gap_part : (sh : List ℕ) (a : At) → as_items (plan_at sh a >>= λ p. after_plan sh (with_plan p.0, p.1)) ≡ prefixed (kind kinds.Gap ∷ shape sh ∷ []) (shaped_rest kinds.Gap sh a)
unfolding plan_at weights_at flows_at
gap_part sh a =
    let front : List Field = kind kinds.Gap ∷ shape sh ∷ [] in
    let go : Written × At → Result (Cert × At) ℕ = λ p. after_plan sh (with_plan p.0, p.1) in
    bind_out_first (word_at (codes "plan ") a) _ go front _ (λ w _. bind_out_first (u32_at Space w.1) _ go front _ (λ b _. bind_out_first (u32_at Line b.1) _ go front _ (λ f _.
    list_part weight (list_word_at (codes "weights") (get_or sh 4 0) f.1) (λ v. each_at (λ k. u32_at (ends_before k)) (get_or sh 4 0) v.1) _ go (front ++ (bases b.0 f.0 ∷ []))
    (outflow_words_rest (get_or sh 5 0) (get_or sh 6 0)) (λ ws.
    list_part outflow (list_word_at (codes "outflows") (get_or sh 5 0) ws.1) (λ v. each_at (λ k. u64_at (ends_before k)) (get_or sh 5 0) v.1) _ go ((front ++ (bases b.0 f.0 ∷ [])) ++ map weight ws.0)
    (direct_words_rest (get_or sh 6 0)) (λ os.
    list_part direct (list_word_at (codes "direct") (get_or sh 6 0) os.1) (λ v. each_at (λ k. u64_at (ends_before k)) (get_or sh 6 0) v.1) _ go
    (((front ++ (bases b.0 f.0 ∷ [])) ++ map weight ws.0) ++ map outflow os.0)
    (splits_rest kinds.Gap) (λ ds.
    splits_part (with_plan (plan_is b.0 f.0 ws.0 os.0 ds.0)) sh ds.1
    ∙ ap (λ (is : List Field). prefixed (kind kinds.Gap ∷ shape sh ∷ bases b.0 f.0 ∷ is) (splits_rest kinds.Gap ds.1)) (sym (append_assoc (map weight ws.0) (map outflow os.0) (map direct ds.0))))))
    ∙ sym (prefixed_twice front (bases b.0 f.0 ∷ []) (weight_words_rest (get_or sh 4 0) (get_or sh 5 0) (get_or sh 6 0) f.1)))))

plan_part : (k : Kind) (sh : List ℕ) (a : At) → as_items (opened_at k sh a >>= after_plan sh) ≡ prefixed (kind k ∷ shape sh ∷ []) (shaped_rest k sh a)
unfolding opened_at
plan_part kinds.Gap sh a = ap as_items (bind_assoc (plan_at sh a) _ (after_plan sh)) ∙ gap_part sh a
plan_part kinds.Bound sh a = splits_part bound_alone sh a
plan_part kinds.NoPlan sh a = splits_part none sh a

-- what the calls give from the start is what the certificate has
pub rest-cert : (a : At) → rest_at states.Begin a ≡ as_items (cert_at a)
unfolding rest_at cert_at
rest-cert a = sym (bind_out (word_at (codes "poolcert 1\n") a) _ [] _ (λ w _. bind_out (kind_at w.1) _ [] _ (λ k _.
    bind_out (shape_at k.1) _ (kind k.0 ∷ []) (λ s. prefixed (shape s.0 ∷ []) (shaped_rest k.0 s.0 s.1)) (λ s _.
    plan_part k.0 s.0 s.1 ∙ sym (prefixed_twice (kind k.0 ∷ []) (shape s.0 ∷ []) (shaped_rest k.0 s.0 s.1)))
    ∙ sym (no_items (prefixed (kind k.0 ∷ []) (shape_rest k.0 k.1)))))
    ∙ no_items (begin_rest a))

-- ---- the calls so far

pub gave-rest : (s : State) (a : At) (is : List Field) (t : State) (b : At) → Gave s a is t b → rest_at s a ≡ prefixed is (rest_at t b)
gave-rest s a [] t b h = sym (no_items (rest_at s a)) ∙ ap (λ (u : State). prefixed [] (rest_at u a)) h.0 ∙ ap (λ (c : At). prefixed [] (rest_at t c)) h.1
gave-rest s a (i ∷ is) t b h =
    let one : rest_at s a ≡ prefixed (i ∷ []) (rest_at h.0 h.1) = one_step s a h.2 ∙ ap stepped h.3 in
    one ∙ ap (prefixed (i ∷ [])) (gave-rest h.0 h.1 is t b h.4) ∙ prefixed_twice (i ∷ []) is (rest_at t b)

-- ---- what that says of the text

cert_is : (a b : At) (is : List Field) → as_items (cert_at a) ≡ done (is, b) → (c : Cert) × (cert_at a ≡ Ok (c, b)) × (items_of c ≡ is)
cert_is a b is e =
    let m = bind_ok (cert_at a) (λ c. got (items_of c.0) c.1) (is, b) e in
    let p = ok_is (items_of m.0.0, m.0.1) (is, b) m.2 in
    (m.0.0, m.1 ∙ ap (λ (q : List Field × At). got m.0.0 q.1) p, ap (λ (q : List Field × At). q.0) p)

pub gave-end : (bytes : List ℕ) (is : List Field) (b : At) → Gave states.Begin (start bytes) is states.Ended b → b.rest ≡ [] → (c : Cert) × IsCert c × (bytes ≡ text_of c) × (items_of c ≡ is)
unfolding rest_at
gave-end bytes is b h e =
    let m = cert_is (start bytes) b (is ++ []) (sym (rest-cert (start bytes)) ∙ gave-rest states.Begin (start bytes) is states.Ended b h) in
    let t = cert_reads.takes (start bytes) m.0 b m.1 in
    (m.0, t.is, t.parts ∙ ap (λ (r : List ℕ). text_of m.0 ++ r) e ∙ append-nil (text_of m.0), m.2 ∙ append-nil is)

pub gave-prefix : (bytes : List ℕ) (is : List Field) (s : State) (b : At) (c : Cert) → Gave states.Begin (start bytes) is s b → IsCert c →
    bytes ≡ text_of c → (more : List Field) × (items_of c ≡ is ++ more)
gave-prefix bytes is s b c h ok e =
    let last : At = record { line = 1 + line_feeds (text_of c); rest = [] } in
    let f : cert_at (start bytes) ≡ Ok (c, last) = cert_reads.again (start bytes) last c (record { is = ok; parts = e ∙ sym (append-nil (text_of c)); line = refl }) in
    let all : done (items_of c, last) ≡ prefixed is (rest_at s b) = sym (rest-cert (start bytes) ∙ ap as_items f) ∙ gave-rest states.Begin (start bytes) is s b h in
    let m = bind_ok (rest_at s b) (λ q. got (is ++ q.0) q.1) (items_of c, last) (sym all) in
    (m.0.0, sym (ap (λ (q : List Field × At). q.0) (ok_is (is ++ m.0.0, m.0.1) (items_of c, last) m.2)))

pub gave-fault : (bytes : List ℕ) (is : List Field) (s : State) (a : At) (n : ℕ) → Gave states.Begin (start bytes) is s a → s ≢ states.Ended →
    next_at s a ≡ Err n → IsFaultyLine Cert IsCert text_of bytes n
gave-fault bytes is s a n h ne e =
    let here : rest_at s a ≡ Err n = one_step s a ne ∙ ap stepped e in
    let all : as_items (cert_at (start bytes)) ≡ Err n = sym (rest-cert (start bytes)) ∙ gave-rest states.Begin (start bytes) is s a h ∙ ap (prefixed is) here in
    let cert : cert_at (start bytes) ≡ Err n = elim (bind_err (cert_at (start bytes)) (λ c. got (items_of c.0) c.1) n all) [ inl f ↦ f | inr m ↦ absurd (let g = m.2 in cc) ] in
    whole_fault Cert IsCert text_of cert_at cert_reads bytes n (rw cert refl)

-- a byte behind what was read is a fault of its line
ended_behind : {X : Type 0} (x : X) (line : ℕ) (rest : List ℕ) (c : ℕ) → first_byte rest ≡ Some c → ended x line rest ≡ Err line
ended_behind x line [] c e = absurd cc
ended_behind x line (d ∷ ds) c e = refl

pub gave-behind : (bytes : List ℕ) (is : List Field) (b : At) (c : ℕ) → Gave states.Begin (start bytes) is states.Ended b → first_of b ≡ Some c → IsFaultyLine Cert IsCert text_of bytes b.line
unfolding rest_at
gave-behind bytes is b c h e =
    let m = cert_is (start bytes) b (is ++ []) (sym (rest-cert (start bytes)) ∙ gave-rest states.Begin (start bytes) is states.Ended b h) in
    whole_fault Cert IsCert text_of cert_at cert_reads bytes b.line (rw m.1 (ended_behind m.0 b.line b.rest c e))
