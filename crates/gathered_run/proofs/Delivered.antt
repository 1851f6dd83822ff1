-- Events, one list after another.
use Rattle.std.proofs.Common.{◌≡◌, ℕ, suc, ◌+◌, ◌<◌, List, [], ◌∷◌, ◌++◌, map, take, drop, get_or, length, refl, sym, ap, subst, ◌∙◌, arith}
use Rattle.std.specs.Prelude.{filter, Ok}
use Rattle.std.proofs.lemmas.List.{append-nil, map-id, map-append, append_assoc}
use Rattle.std.proofs.lemmas.List.Elements.{filter-append}
use Rattle.pool_model.specs.Network.{Net}
use Rattle.row_model.specs.Entries.{Entry}
use Rattle.recorded_run.proofs.Recording.{split_here}
use Rattle.work_units.specs.Units.{Answer}
use Rattle.work_units.specs.Desks.{Desk, entries_of}
use Rattle.work_units.specs.Deliveries.{Delivery, after_one, AreDelivered, after_all, fits, fitting}
use Rattle.gathered_run.specs.Files.{Item, items_in, items_from}
use Rattle.gathered_run.specs.Events.{Event, judged, faulty, deliveries, gains, desk_after, AreJudged}
use Rattle.gathered_run.specs.declared.files.AnswersFile.{AnswersFile}

-- ---- deliveries

after-append : (d : Desk) (xs ys : List Delivery) → after_all d (xs ++ ys) ≡ after_all (after_all d xs) ys
after-append d [] ys = refl
after-append d (x ∷ xs) ys = after-append (after_one d x.answer x.came) xs ys

delivered-append : (n : Net) (d : Desk) (xs ys : List Delivery) → AreDelivered n d xs → AreDelivered n (after_all d xs) ys → AreDelivered n d (xs ++ ys)
delivered-append n d [] ys first then = then
delivered-append n d (x ∷ xs) ys first then = (first.0, delivered-append n (after_one d x.answer x.came) xs ys first.1 then)

fitting-append : (xs ys : List Delivery) → fitting (xs ++ ys) ≡ fitting xs ++ fitting ys
fitting-append xs ys =
    let is_fit = λ (x : Delivery). fits x.came in
    let answer = λ (x : Delivery). x.answer in
    ap (map answer) (filter-append is_fit xs ys) ∙ map-append answer (filter is_fit xs) (filter is_fit ys)

-- ---- events

deliveries-append : (xs ys : List Event) → deliveries (xs ++ ys) ≡ deliveries xs ++ deliveries ys
deliveries-append [] ys = refl
deliveries-append (judged a how ∷ xs) ys = ap (λ (l : List Delivery). record { answer = a; came = Ok how } ∷ l) (deliveries-append xs ys)
deliveries-append (faulty file line ∷ xs) ys = deliveries-append xs ys

pub desk-append : (d : Desk) (xs ys : List Event) → desk_after d (xs ++ ys) ≡ desk_after (desk_after d xs) ys
desk-append d xs ys = ap (after_all d) (deliveries-append xs ys) ∙ after-append d (deliveries xs) (deliveries ys)

pub judged-append : (n : Net) (d : Desk) (xs ys : List Event) → AreJudged n d xs → AreJudged n (desk_after d xs) ys → AreJudged n d (xs ++ ys)
judged-append n d xs ys first then = subst (AreDelivered n d) (sym (deliveries-append xs ys)) (delivered-append n d (deliveries xs) (deliveries ys) first then)

pub gains-append : (xs ys : List Event) → gains (xs ++ ys) ≡ gains xs ++ gains ys
gains-append xs ys =
    let entry = λ (a : Answer). a.entry in
    ap (λ (l : List Delivery). entries_of (fitting l)) (deliveries-append xs ys) ∙ ap entries_of (fitting-append (deliveries xs) (deliveries ys))
    ∙ map-append entry (fitting (deliveries xs)) (fitting (deliveries ys))

-- the entries of both stand behind those of a list
pub gains-behind : (list : List Entry) (xs ys : List Event) → (list ++ gains xs) ++ gains ys ≡ list ++ gains (xs ++ ys)
gains-behind list xs ys = append_assoc list (gains xs) (gains ys) ∙ ap (λ (l : List Entry). list ++ l) (sym (gains-append xs ys))

-- ---- what files bring

pub items-append : (k : ℕ) (xs ys : List AnswersFile) → items_from k (xs ++ ys) ≡ items_from k xs ++ items_from (k + length xs) ys
items-append k [] ys = ap (λ (m : ℕ). items_from m ys) (omega arith)
items-append k (x ∷ xs) ys =
    let shifted : suc k + length xs ≡ k + length (x ∷ xs) = omega arith in
    ap (λ (l : List Item). items_in k x ++ l) (items-append (suc k) xs ys ∙ ap (λ (m : ℕ). items_from (suc k) xs ++ items_from m ys) shifted)
    ∙ sym (append_assoc (items_in k x) (items_from (suc k) xs) (items_from (k + length (x ∷ xs)) ys))

-- one file more
pub items-one : (xs : List AnswersFile) (x : AnswersFile) (number : ℕ) → number ≡ length xs → items_from 0 (xs ++ x ∷ []) ≡ items_from 0 xs ++ items_in number x
items-one xs x number is =
    let at : 0 + length xs ≡ number = omega (arith, is) in
    items-append 0 xs (x ∷ []) ∙ ap (λ (m : ℕ). items_from 0 xs ++ (items_in m x ++ [])) at ∙ ap (λ (l : List Item). items_from 0 xs ++ l) (append-nil (items_in number x))

-- the files so far, this one, and those behind it
pub files-here : (files xs : List AnswersFile) (x : AnswersFile) → map (λ (f : AnswersFile). f) xs ≡ take (length xs) files → length xs < length files → x ≡ get_or files (length xs) x
    → files ≡ xs ++ x ∷ drop (suc (length xs)) files
files-here files xs x so_far lt here =
    let rest = drop (suc (length xs)) files in
    let all = split_here (λ (f : AnswersFile). f) files xs x so_far lt here in
    sym (map-id files) ∙ all ∙ ap (λ (l : List AnswersFile). l ++ x ∷ map (λ (f : AnswersFile). f) rest) (map-id xs) ∙ ap (λ (l : List AnswersFile). xs ++ x ∷ l) (map-id rest)

pub items-parts : (files xs : List AnswersFile) (x : AnswersFile) (rest : List AnswersFile) (number : ℕ) → files ≡ xs ++ x ∷ rest → number ≡ length xs
    → items_from 0 files ≡ items_from 0 xs ++ (items_in number x ++ items_from (suc number) rest)
items-parts files xs x rest number parts is =
    let at : 0 + length xs ≡ number = omega (arith, is) in
    ap (items_from 0) parts ∙ items-append 0 xs (x ∷ rest) ∙ ap (λ (m : ℕ). items_from 0 xs ++ (items_in m x ++ items_from (suc m) rest)) at
