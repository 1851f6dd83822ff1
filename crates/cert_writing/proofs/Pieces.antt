-- Texts, piece by piece.
use Rattle.std.proofs.Common.{◌≡◌, ℕ, ◌<◌, List, [], ◌∷◌, ◌++◌, length, take, drop, get_or, Option, Result, refl, sym, ap, subst, ◌∙◌, append_assoc}
use Rattle.std.specs.Prelude.{map, decimal, codes}
use Rattle.std.specs.List.{flat_map}
use Rattle.std.proofs.lemmas.List.{length-map, take-append-drop}
use Rattle.std.proofs.lemmas.List.Concat.{flat_map-append}
use Rattle.std.proofs.lemmas.List.Folds.{flat_map-map}
use Rattle.edge_io.specs.Writing.{behind, Wrote, TookFront}
use Rattle.edge_io.proofs.Writes.{front-list, wrote-behind, wrote-same}
use Rattle.linear_program.specs.declared.multipliers.Part.{Part}
use Rattle.linear_program.specs.declared.multipliers.Proof.{Proof}
use Rattle.box_space.specs.Views.{shown_part, shown_proof}
use Rattle.cert_writing.specs.declared.certificate.NodeProof.{NodeProof}
use Rattle.cert_writing.specs.Views.{shown_node_proof}
use Rattle.cert_writing.specs.Text.{field, line, part_fields, proof_line}

-- a fault in a piece of a list, whose items are shown by `view`
pub front-shown : {X Y : Type 0} (f : Y → List ℕ) (view : X → Y) (xs : List X) (i : ℕ) (d : X) (old mid new : Option (List ℕ)) → i < length xs
    → mid ≡ behind old (flat_map (λ x. f (view x)) (take i xs)) → TookFront mid (f (view (get_or xs i d))) new → TookFront old (flat_map f (map view xs)) new
front-shown f view xs i d old mid new lt e h =
    subst (λ (w : List ℕ). TookFront old w new) (sym (flat_map-map f view xs)) (front-list (λ x. f (view x)) xs i d old mid new lt e h)

-- behind the last piece of a list
pub all-shown : {X Y : Type 0} (f : Y → List ℕ) (view : X → Y) (xs : List X) (i : ℕ) (old mid : Option (List ℕ)) → take i xs ≡ xs
    → mid ≡ behind old (flat_map (λ x. f (view x)) (take i xs)) → mid ≡ behind old (flat_map f (map view xs))
all-shown {X} f view xs i old mid all e = e ∙ ap (λ (ys : List X). behind old (flat_map (λ x. f (view x)) ys)) all ∙ ap (behind old) (sym (flat_map-map f view xs))

-- both halves of a list were written
pub wrote-halves : {X R E : Type 0} (r : Result R E) (f : X → List ℕ) (xs ys zs : List X) (i : ℕ) (old mid new : Option (List ℕ))
    → ys ≡ take i xs → zs ≡ drop i xs → mid ≡ behind old (flat_map f ys) → Wrote r mid (flat_map f zs) new → Wrote r old (flat_map f xs) new
wrote-halves {X} r f xs ys zs i old mid new front back e h =
    let parts : flat_map f ys ++ flat_map f zs ≡ flat_map f xs =
    ap (λ (w : List X). flat_map f w ++ flat_map f zs) front ∙ ap (λ (w : List X). flat_map f (take i xs) ++ flat_map f w) back
    ∙ sym (flat_map-append f (take i xs) (drop i xs)) ∙ ap (flat_map f) (take-append-drop i xs) in
    wrote-same r old (flat_map f ys ++ flat_map f zs) (flat_map f xs) new parts (wrote-behind r old (flat_map f ys) mid (flat_map f zs) new e h)

-- a count and so many texts, of items that are shown by `view`
pub counted_text : {X Y : Type 0} (word : List ℕ) (f : Y → List ℕ) (view : X → Y) (xs : List X)
    → line word (decimal (length xs) ∷ []) ++ flat_map (λ x. f (view x)) xs ≡ line word (decimal (length (map view xs)) ∷ []) ++ flat_map f (map view xs)
counted_text word f view xs =
    ap (λ (n : ℕ). line word (decimal n ∷ []) ++ flat_map (λ x. f (view x)) xs) (sym (length-map xs view))
    ∙ ap (λ (w : List ℕ). line word (decimal (length (map view xs)) ∷ []) ++ w) (sym (flat_map-map f view xs))

-- a line of a word, a number and more fields
pub line_text : (word number fields : List ℕ) → word ++ (((32 ∷ number) ++ []) ++ (fields ++ 10 ∷ [])) ≡ word ++ (((32 ∷ number) ++ fields) ++ 10 ∷ [])
line_text word number fields = simp append_assoc

-- ---- a proof, piece by piece

-- the fields before the parts
abbrev pub head_text : Proof → List ℕ
head_text p = flat_map field (decimal p.scale ∷ decimal (length p.parts.items) ∷ [])

-- the fields of a part
abbrev pub part_text : Part → List ℕ
part_text p = flat_map field (part_fields (shown_part p))

-- the fields of a proof
abbrev pub proof_fields : Proof → List ℕ
proof_fields p = flat_map field (decimal (shown_proof p).scale ∷ decimal (length (shown_proof p).parts) ∷ flat_map part_fields (shown_proof p).parts)

parts_same : (ps : List Part) → flat_map part_text ps ≡ flat_map field (flat_map part_fields (map shown_part ps))
parts_same [] = refl
parts_same (p ∷ ps) =
    ap (λ (w : List ℕ). part_text p ++ w) (parts_same ps) ∙ sym (flat_map-append field (part_fields (shown_part p)) (flat_map part_fields (map shown_part ps)))

pub proof_text : (p : Proof) → head_text p ++ flat_map part_text p.parts.items ≡ proof_fields p
proof_text p =
    let ps = p.parts.items in
    two (decimal p.scale) (decimal (length ps)) (flat_map part_text ps)
    ∙ ap (λ (w : List ℕ). (32 ∷ decimal p.scale) ++ ((32 ∷ decimal (length ps)) ++ w)) (parts_same ps)
    ∙ ap (λ (n : ℕ). (32 ∷ decimal p.scale) ++ ((32 ∷ decimal n) ++ flat_map field (flat_map part_fields (map shown_part ps)))) (sym (length-map ps shown_part))
  where
    two : (x y q : List ℕ) → ((32 ∷ x) ++ ((32 ∷ y) ++ [])) ++ q ≡ (32 ∷ x) ++ ((32 ∷ y) ++ q)
    two x y q = simp append_assoc

pub node_text : (p : NodeProof) → codes "proof" ++ (flat_map field (decimal p.node ∷ []) ++ (proof_fields p.proof ++ 10 ∷ [])) ≡ proof_line (shown_node_proof p)
node_text p = line_text (codes "proof") (decimal p.node) (proof_fields p.proof)
