-- Tests of a list of items, at what they show.
use Rattle.std.proofs.Common.{◌≡◌, ◌∙◌, ◌&&◌, ◌||◌, ◌+◌, false, ap, ap₂, refl, sym, map, List, [], ◌∷◌, ℕ, Bool, true, not, cond, Option, Some, None, length, arith}
use Rattle.std.specs.Prelude.{option_map, count_by, is_some, nat_le}
use Rattle.std.specs.List.{list_any, list_all}
use Rattle.std.specs.Option.{option_map_or}
use Rattle.std.specs.Borrow.{Bor}
use Rattle.std.specs.Str.{bytes_eq}
use Rattle.std.proofs.lemmas.List.Sums.{sum_by-cons}
use Rattle.command_items.specs.Items.{Text, fits, has_only, is_named, is_option, once, positionals, with_positional}
use Rattle.command_items.specs.Views.{shown_item, shown_items}
use Rattle.command_items.specs.declared.items.Item.{Item}

any_map : {X Y : Type 0} (p : Y → Bool) (f : X → Y) (xs : List X) → list_any (λ x. p (f x)) xs ≡ list_any p (map f xs)
any_map p f [] = refl
any_map p f (x ∷ xs) = ap (λ b. p (f x) || b) (any_map p f xs)

count_positionals : (xs : List Item) → count_by (λ x. not (is_some x.name)) xs ≡ length (positionals (shown_items xs))
count_positionals [] = refl
count_positionals (x ∷ xs) = sum_by-cons (λ y. cond (not (is_some y.name)) 1 0) x xs ∙ go x.name (count_positionals xs)
  where
    go : (o : Option (Bor Text)) → count_by (λ y. not (is_some y.name)) xs ≡ length (positionals (shown_items xs))
        → (cond (not (is_some o)) 1 0 + count_by (λ y. not (is_some y.name)) xs) ≡ length (with_positional (option_map (λ s. s.now) o) x.value.now (positionals (shown_items xs)))
    go None ih = omega (arith, ih)
    go (Some s) ih = omega (arith, ih)

only_shown : (os : List (Bor Text)) (xs : List Item) → list_all (λ x. option_map_or (λ n. list_any (λ o. bytes_eq o.now n.now) os) x.name true) xs ≡ has_only (map (λ o. o.now) os) (shown_items xs)
only_shown os [] = refl
only_shown os (x ∷ xs) = ap₂ (λ a b. a && b) (go x.name) (only_shown os xs)
  where
    go : (o : Option (Bor Text)) → option_map_or (λ (n : Bor Text). list_any (λ o. bytes_eq o.now n.now) os) o true ≡ option_map_or (is_option (map (λ o. o.now) os)) (option_map (λ s. s.now) o) true
    go None = refl
    go (Some n) = any_map (λ o. bytes_eq o n.now) (λ o. o.now) os

pub fits_shown : (least most : ℕ) (os : List (Bor Text)) (xs : List Item)
    → ((nat_le least (count_by (λ x. not (is_some x.name)) xs) && nat_le (count_by (λ x. not (is_some x.name)) xs) most)
    && (list_all (λ x. option_map_or (λ n. list_any (λ o. bytes_eq o.now n.now) os) x.name true) xs && once (shown_items xs)))
    ≡ fits least most (map (λ o. o.now) os) (shown_items xs)
fits_shown least most os xs = ap₂ (λ a b. (nat_le least a && nat_le a most) && (b && once (shown_items xs))) (count_positionals xs) (only_shown os xs)

-- the first item's option stands again among the rest, or not
pub once_by : (ys : List Item) (x : Item) (xs : List Item) (b : Bool) → ys ≡ x ∷ xs → b ≡ option_map_or (λ n. list_any (λ y. is_named n.now (shown_item y)) xs) x.name false
    → (not b && once (shown_items xs)) ≡ once (shown_items ys)
once_by ys x xs b parts is = ap (λ c. not c && once (shown_items xs)) (is ∙ go x.name) ∙ sym (ap (λ zs. once (shown_items zs)) parts)
  where
    go : (o : Option (Bor Text))
        → option_map_or (λ n. list_any (λ y. is_named n.now (shown_item y)) xs) o false ≡ option_map_or (λ name. list_any (is_named name) (shown_items xs)) (option_map (λ s. s.now) o) false
    go None = refl
    go (Some n) = any_map (is_named n.now) shown_item xs
