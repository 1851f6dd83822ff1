-- From what one check answers to the first fault of the rows.
use Rattle.std.proofs.Common.{◌≡◌, ◌≢◌, ℕ, ◌<◌, List, [], ◌++◌, length, map, get_or, string_bytes, Result, Ok, Err, IfErr, refl, sym, ap, subst, ◌∙◌, arith}
use Rattle.std.specs.Result.{IsErrAnd}
use Rattle.std.proofs.lemmas.List.{length-map}
use Rattle.std.proofs.lemmas.Simd.{map-map}
use Rattle.pool_model.specs.Rows.{Rows}
use Rattle.network_parts.specs.declared.parts.SourceRow.{SourceRow}
use Rattle.network_parts.specs.declared.parts.PoolRow.{PoolRow}
use Rattle.network_parts.specs.declared.parts.ProductRow.{ProductRow}
use Rattle.network_parts.specs.Parts.{source_row, pool_row, product_row}
use Rattle.network_parts.specs.Faults.{IsName, IsBadAt, IsBadName, IsRepeatAt, IsDuplicateName, row_names, names_before}
use Rattle.network_parts.specs.FirstFault.{number, about, Holds, IsFirstFault, LacksEarlier}
use Rattle.faults.specs.First.{IsFirstOf}
use Rattle.network_parts.specs.declared.fault.Kind.{Kind}
use Rattle.network_parts.specs.declared.fault.Kind.TheVariants.{Source, Pool, Product, Quality, Arc}
use Rattle.network_parts.specs.declared.fault.NetFault.{NetFault}
use Rattle.network_parts.specs.declared.fault.NetFault.TheVariants.{TooMany, BadName, DuplicateName, UnknownName, OutOfRange, LeastAboveMost, Memory}
use Rattle.network_checks.proofs.Order.{memory_first, kinded_first, kinded_next, bad_name, duplicate_name, out_of_range, LacksKinds}

-- an error that is handed on
pub handed : {X : Type 0} (r : Rows) (result : Result X NetFault) (f : NetFault) → IsErrAnd result (λ z. z ≡ f) → IsFirstFault r f → IfErr result (IsFirstFault r)
handed r (Ok x) f is h = absurd is
handed r (Err z) f is h = subst (IsFirstFault r) (sym is) h

pub but_memory : (r : Rows) (f : NetFault) → (f ≢ Memory → IsFirstFault r f) → IsFirstFault r f
but_memory r Memory h = memory_first r
but_memory r f h = h (λ m. cc)

-- ---- one kind after another

pub before_source : (r : Rows) (make : Kind → ℕ → NetFault) → LacksKinds r make Source
before_source r make k less = absurd (omega (arith, less))

pub before_pool : (r : Rows) (make : Kind → ℕ → NetFault) → ((n : ℕ) → ¬ Holds r (make Source n)) → LacksKinds r make Pool
before_pool r make s Source less = s
before_pool r make s k less = absurd (omega (arith, less))

pub before_product : (r : Rows) (make : Kind → ℕ → NetFault) → ((n : ℕ) → ¬ Holds r (make Source n)) → ((n : ℕ) → ¬ Holds r (make Pool n)) → LacksKinds r make Product
before_product r make s p Source less = s
before_product r make s p Pool less = p
before_product r make s p k less = absurd (omega (arith, less))

pub before_quality : (r : Rows) (make : Kind → ℕ → NetFault) → ((n : ℕ) → ¬ Holds r (make Source n))
    → ((n : ℕ) → ¬ Holds r (make Pool n)) → ((n : ℕ) → ¬ Holds r (make Product n)) → LacksKinds r make Quality
before_quality r make s p x Source less = s
before_quality r make s p x Pool less = p
before_quality r make s p x Product less = x
before_quality r make s p x k less = absurd (omega (arith, less))

pub before_arc : (r : Rows) (make : Kind → ℕ → NetFault) → ((n : ℕ) → ¬ Holds r (make Source n)) → ((n : ℕ) → ¬ Holds r (make Pool n)) → ((n : ℕ) → ¬ Holds r (make Product n))
    → ((n : ℕ) → ¬ Holds r (make Quality n)) → LacksKinds r make Arc
before_arc r make s p x q Source less = s
before_arc r make s p x q Pool less = p
before_arc r make s p x q Product less = x
before_arc r make s p x q Quality less = q
before_arc r make s p x q k less = absurd (omega (arith, less))

all_kinds : (r : Rows) (make : Kind → ℕ → NetFault) → ((n : ℕ) → ¬ Holds r (make Source n)) → ((n : ℕ) → ¬ Holds r (make Pool n)) → ((n : ℕ) → ¬ Holds r (make Product n))
    → ((n : ℕ) → ¬ Holds r (make Quality n)) → ((n : ℕ) → ¬ Holds r (make Arc n)) → (kind : Kind) (n : ℕ) → ¬ Holds r (make kind n)
all_kinds r make s p x q a Source = s
all_kinds r make s p x q a Pool = p
all_kinds r make s p x q a Product = x
all_kinds r make s p x q a Quality = q
all_kinds r make s p x q a Arc = a

-- ---- lists

-- a fault about a list that is too long, whatever the number
abbrev pub many : Kind → ℕ → NetFault
many kind n = TooMany kind

-- ---- names

-- the names that were read are those of the rows
pub names_of_sources : (rows items : List SourceRow) → rows ≡ items → map (λ s. string_bytes s.name) rows ≡ map (λ s. s.name) (map source_row items)
names_of_sources rows items e = ap (map (λ s. string_bytes s.name)) e ∙ sym (map-map (λ s. s.name) source_row items)

pub names_of_pools : (rows items : List PoolRow) → rows ≡ items → map (λ p. string_bytes p.name) rows ≡ map (λ p. p.name) (map pool_row items)
names_of_pools rows items e = ap (map (λ p. string_bytes p.name)) e ∙ sym (map-map (λ p. p.name) pool_row items)

pub names_of_products : (rows items : List ProductRow) → rows ≡ items → map (λ p. string_bytes p.name) rows ≡ map (λ p. p.name) (map product_row items)
names_of_products rows items e = ap (map (λ p. string_bytes p.name)) e ∙ sym (map-map (λ p. p.name) product_row items)

pub good_names : {T : Type 0} (name : T → List ℕ) (rows : List T) (r : Rows) (kind : Kind)
    → map name rows ≡ row_names r kind → ((n : ℕ) → n < length rows → IsName (get_or (map name rows) n [])) → (n : ℕ)
    → ¬ IsBadName r kind n
good_names name rows r kind e good n bad =
    let at : IsBadAt (map name rows) n = subst (λ xs. IsBadAt xs n) (sym e) bad in
    at.1 (good n (omega (arith, at.0, length-map rows name)))

pub bad_first : (r : Rows) (kind : Kind) (names : List (List ℕ)) (f : NetFault) → names ≡ row_names r kind → LacksEarlier r (BadName Source 0) → LacksKinds r BadName kind
    → IsFirstOf (BadName kind) (IsBadAt names) f → IsFirstFault r f
bad_first r kind names f e clear lacks found =
    kinded_first BadName bad_name r kind (IsBadAt (row_names r kind)) f clear lacks (λ n h. h) (λ n h. h) (subst (λ xs. IsFirstOf (BadName kind) (IsBadAt xs) f) e found)

pub bad_next : (r : Rows) → LacksEarlier r (BadName Source 0) → ((n : ℕ) → ¬ IsBadName r Source n)
    → ((n : ℕ) → ¬ IsBadName r Pool n) → ((n : ℕ) → ¬ IsBadName r Product n) → ((n : ℕ) → ¬ IsBadName r Quality n)
    → LacksEarlier r (DuplicateName Source 0)
bad_next r clear s p x q = kinded_next BadName bad_name r (DuplicateName Source 0) clear (all_kinds r BadName s p x q (λ n bad. omega (arith, bad.0))) refl

-- a table after names were added
pub added_to : (old old' new names names' : List (List ℕ)) → new ≡ old ++ names → old ≡ old' → names ≡ names' → new ≡ old' ++ names'
added_to old old' new names names' h a b = h ∙ ap (λ x. x ++ names) a ∙ ap (λ x. old' ++ x) b

pub fresh_names : (r : Rows) (kind : Kind) (old names : List (List ℕ)) → old ≡ names_before r kind
    → names ≡ row_names r kind → ((n : ℕ) → ¬ IsRepeatAt old names n) → (n : ℕ) → ¬ IsDuplicateName r kind n
fresh_names r kind old names a b fresh n = subst (λ xs. ¬ IsRepeatAt xs (row_names r kind) n) a (subst (λ xs. ¬ IsRepeatAt old xs n) b (fresh n))

pub twice_first : (r : Rows) (kind : Kind) (old names : List (List ℕ)) (f : NetFault) → old ≡ names_before r kind
    → names ≡ row_names r kind → LacksEarlier r (DuplicateName Source 0) → LacksKinds r DuplicateName kind
    → (f ≢ Memory → IsFirstOf (DuplicateName kind) (IsRepeatAt old names) f) → IsFirstFault r f
twice_first r kind old names f a b clear lacks found =
    but_memory r f
    (λ other.
    kinded_first DuplicateName duplicate_name r kind (IsRepeatAt (names_before r kind) (row_names r kind)) f clear lacks (λ n h. h) (λ n h. h)
    (subst (λ xs. IsFirstOf (DuplicateName kind) (IsRepeatAt xs (row_names r kind)) f) a (subst (λ xs. IsFirstOf (DuplicateName kind) (IsRepeatAt old xs) f) b (found other))))

pub twice_next : (r : Rows) → LacksEarlier r (DuplicateName Source 0) → ((n : ℕ) → ¬ IsDuplicateName r Source n) → ((n : ℕ) → ¬ IsDuplicateName r Pool n) → ((n : ℕ) → ¬ IsDuplicateName r Product n)
    → ((n : ℕ) → ¬ IsDuplicateName r Quality n) → LacksEarlier r (UnknownName 0)
twice_next r clear s p x q = kinded_next DuplicateName duplicate_name r (UnknownName 0) clear (all_kinds r DuplicateName s p x q (λ n bad. omega (arith, bad.0))) refl

-- ---- numbers

pub out_first : (r : Rows) (kind : Kind) (f : NetFault) → LacksEarlier r (OutOfRange Source 0)
    → LacksKinds r OutOfRange kind → IsFirstOf (OutOfRange kind) (λ n. Holds r (OutOfRange kind n)) f → IsFirstFault r f
out_first r kind f clear lacks found = kinded_first OutOfRange out_of_range r kind (λ n. Holds r (OutOfRange kind n)) f clear lacks (λ n h. h) (λ n h. h) found

pub out_next : (r : Rows) → LacksEarlier r (OutOfRange Source 0) → ((n : ℕ) → ¬ Holds r (OutOfRange Source n))
    → ((n : ℕ) → ¬ Holds r (OutOfRange Pool n)) → ((n : ℕ) → ¬ Holds r (OutOfRange Product n))
    → ((n : ℕ) → ¬ Holds r (OutOfRange Arc n)) → LacksEarlier r (LeastAboveMost 0)
out_next r clear s p x a = kinded_next OutOfRange out_of_range r (LeastAboveMost 0) clear (all_kinds r OutOfRange s p x (λ n bad. bad) a) refl

-- rows that are all good: by what was found of the same rows
pub all_good : {T Y : Type 0} (P : Y → Type 0) (f : T → Y) (d : Y) (xs ys : List T) → xs ≡ ys
    → ((n : ℕ) → n < length xs → P (get_or (map f xs) n d)) → (n : ℕ) → n < length (map f ys)
    → P (get_or (map f ys) n d)
all_good P f d xs ys same h n within = subst (λ zs. P (get_or (map f zs) n d)) same (h n (omega (arith, length-map ys f, ap length same)))
