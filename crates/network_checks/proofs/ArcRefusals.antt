-- From what a check of arcs, pools or paths answers to the first fault of the rows.
use Rattle.std.proofs.Common.{◌≡◌, ◌≢◌, ℕ, ◌<◌, ◌≤◌, List, length, get_or, All, refl, sym, ap, subst, arith}
use Rattle.std.proofs.lemmas.List.{length-map}
use Rattle.pool_model.specs.Rows.{Rows}
use Rattle.network_parts.specs.Faults.{IsUnknownName}
use Rattle.network_parts.specs.FirstFault.{IsFirstFault, LacksEarlier}
use Rattle.network_parts.specs.Nodes.{is_backward, is_between_pools}
use Rattle.network_parts.specs.Views.{shown_path}
use Rattle.network_parts.specs.Ready.{IsDistinct, AreEndsOf, IsMarked, IsRepeatedEnds, AreArcsOf, no_ends}
use Rattle.faults.specs.First.{IsFirstOf}
use Rattle.network_parts.specs.declared.arcs.Ends.{Ends}
use Rattle.network_parts.specs.declared.arcs.Arcs.{Arcs}
use Rattle.network_parts.specs.declared.arcs.Arc.{Arc}
use Rattle.network_parts.specs.declared.arcs.Path.{Path}
use Rattle.network_parts.specs.declared.fault.Kind.TheVariants as kind
use Rattle.network_parts.specs.declared.fault.NetFault.{NetFault}
use Rattle.network_parts.specs.declared.fault.NetFault.TheVariants.{UnknownName, ArcBackwards, PoolToPool, DuplicateArc, PoolWithoutInput, PoolWithoutOutput, TooManyPaths, OutOfRange, Memory}
use Rattle.network_checks.proofs.Order.{unknown, backwards, pool_to_pool, duplicate, without_input, without_output, numbered_first, numbered_next, paths_first, paths_next}
use Rattle.network_checks.proofs.Conditions.{nodes_at, not_unknown, backwards_marked, marked_backwards, between_marked, marked_between, repeat_seen, seen_repeat}
use Rattle.network_checks.proofs.Conditions.{input_lacks, lacks_input, output_lacks, lacks_output}
use Rattle.network_checks.proofs.Refusals.{but_memory}

-- ---- the ends of the arcs

pub unknown_first : (r : Rows) (f : NetFault) → LacksEarlier r (UnknownName 0) → (f ≢ Memory → IsFirstOf UnknownName (IsUnknownName r) f) → IsFirstFault r f
unknown_first r f clear found = but_memory r f (λ other. numbered_first UnknownName unknown r (IsUnknownName r) f clear (λ n h. h) (λ n h. h) (found other))

pub unknown_next : (r : Rows) (ends : List Ends) → AreEndsOf r ends → LacksEarlier r (UnknownName 0) → LacksEarlier r (ArcBackwards 0)
unknown_next r ends are clear = numbered_next UnknownName unknown r (ArcBackwards 0) clear (λ n bad. not_unknown r n (get_or ends n no_ends) (nodes_at r ends n are bad.0) bad) refl

pub forward_first : (r : Rows) (read ends : List Ends) (f : NetFault) → read ≡ ends → IsDistinct r → AreEndsOf r ends
    → LacksEarlier r (ArcBackwards 0) → IsFirstOf ArcBackwards (IsMarked is_backward read) f → IsFirstFault r f
forward_first r read ends f same d are clear found =
    numbered_first ArcBackwards backwards r (IsMarked is_backward ends) f clear (marked_backwards r ends d are)
    (backwards_marked r ends d are) (subst (λ xs. IsFirstOf ArcBackwards (IsMarked is_backward xs) f) same found)

pub forward_next : (r : Rows) (read ends : List Ends) → read ≡ ends → IsDistinct r → AreEndsOf r ends
    → LacksEarlier r (ArcBackwards 0) → ((n : ℕ) → ¬ IsMarked is_backward read n) → LacksEarlier r (PoolToPool 0)
forward_next r read ends same d are clear none =
    numbered_next ArcBackwards backwards r (PoolToPool 0) clear (λ n bad. none n (subst (λ xs. IsMarked is_backward xs n) (sym same) (backwards_marked r ends d are n bad))) refl

pub layers_first : (r : Rows) (read ends : List Ends) (f : NetFault) → read ≡ ends → IsDistinct r → AreEndsOf r ends
    → LacksEarlier r (PoolToPool 0) → IsFirstOf PoolToPool (IsMarked is_between_pools read) f → IsFirstFault r f
layers_first r read ends f same d are clear found =
    numbered_first PoolToPool pool_to_pool r (IsMarked is_between_pools ends) f clear (marked_between r ends d are)
    (between_marked r ends d are) (subst (λ xs. IsFirstOf PoolToPool (IsMarked is_between_pools xs) f) same found)

pub layers_next : (r : Rows) (read ends : List Ends) → read ≡ ends → IsDistinct r → AreEndsOf r ends
    → LacksEarlier r (PoolToPool 0) → ((n : ℕ) → ¬ IsMarked is_between_pools read n) → LacksEarlier r (DuplicateArc 0)
layers_next r read ends same d are clear none =
    numbered_next PoolToPool pool_to_pool r (DuplicateArc 0) clear (λ n bad. none n (subst (λ xs. IsMarked is_between_pools xs n) (sym same) (between_marked r ends d are n bad))) refl

pub repeats_first : (r : Rows) (read ends : List Ends) (f : NetFault) → read ≡ ends → IsDistinct r → AreEndsOf r ends
    → LacksEarlier r (DuplicateArc 0) → IsFirstOf DuplicateArc (IsRepeatedEnds read) f → IsFirstFault r f
repeats_first r read ends f same d are clear found =
    numbered_first DuplicateArc duplicate r (IsRepeatedEnds ends) f clear (seen_repeat r ends d are) (repeat_seen r ends are) (subst (λ xs. IsFirstOf DuplicateArc (IsRepeatedEnds xs) f) same found)

pub repeats_next : (r : Rows) (read ends : List Ends) → read ≡ ends → AreEndsOf r ends → LacksEarlier r (DuplicateArc 0) → ((n : ℕ) → ¬ IsRepeatedEnds read n) → LacksEarlier r (PoolWithoutInput 0)
repeats_next r read ends same are clear none =
    numbered_next DuplicateArc duplicate r (PoolWithoutInput 0) clear (λ n bad. none n (subst (λ xs. IsRepeatedEnds xs n) (sym same) (repeat_seen r ends are n bad))) refl

-- ---- the pools and the paths

-- a pool below this count that no arc of these has at its end
abbrev LacksTo : ℕ → List Arc → ℕ → Type 0
LacksTo count feeds l = (l < count) × All (λ a. ¬ a.to ≡ l) feeds

abbrev LacksFrom : ℕ → List Arc → ℕ → Type 0
LacksFrom count outs l = (l < count) × All (λ a. ¬ a.from ≡ l) outs

told_to : (r : Rows) (arcs : Arcs) (count : ℕ) (read : List Arc) (f : NetFault) → count ≡ length r.pools → read ≡ arcs.feeds.items
    → IsFirstOf PoolWithoutInput (LacksTo count read) f → IsFirstOf PoolWithoutInput (LacksTo (length r.pools) arcs.feeds.items) f
told_to r arcs count read f a b found =
    subst (λ n. IsFirstOf PoolWithoutInput (LacksTo n arcs.feeds.items) f) a (subst (λ xs. IsFirstOf PoolWithoutInput (LacksTo count xs) f) b found)

pub inputs_first : (r : Rows) (arcs : Arcs) (count : ℕ) (read : List Arc) (f : NetFault) → count ≡ length r.pools → read ≡ arcs.feeds.items → AreArcsOf r arcs → LacksEarlier r (PoolWithoutInput 0)
    → IsFirstOf PoolWithoutInput (λ l. (l < count) × All (λ a. ¬ a.to ≡ l) read) f → IsFirstFault r f
inputs_first r arcs count read f a b are clear found =
    numbered_first PoolWithoutInput without_input r (LacksTo (length r.pools) arcs.feeds.items) f clear (lacks_input r arcs are) (input_lacks r arcs are) (told_to r arcs count read f a b found)

pub inputs_next : (r : Rows) (arcs : Arcs) (count : ℕ) (read : List Arc) → count ≡ length r.pools → read ≡ arcs.feeds.items → AreArcsOf r arcs → LacksEarlier r (PoolWithoutInput 0)
    → ((l : ℕ) → l < count → ¬ All (λ a. ¬ a.to ≡ l) read) → LacksEarlier r (PoolWithoutOutput 0)
inputs_next r arcs count read a b are clear none =
    numbered_next PoolWithoutInput without_input r (PoolWithoutOutput 0) clear
    (λ l bad. let h = input_lacks r arcs are l bad in none l (omega (arith, h.0, a)) (subst (λ (xs : List Arc). All (λ a. ¬ a.to ≡ l) xs) (sym b) h.1)) refl

told_from : (r : Rows) (arcs : Arcs) (count : ℕ) (read : List Arc) (f : NetFault) → count ≡ length r.pools → read ≡ arcs.outs.items
    → IsFirstOf PoolWithoutOutput (LacksFrom count read) f → IsFirstOf PoolWithoutOutput (LacksFrom (length r.pools) arcs.outs.items) f
told_from r arcs count read f a b found =
    subst (λ n. IsFirstOf PoolWithoutOutput (LacksFrom n arcs.outs.items) f) a (subst (λ xs. IsFirstOf PoolWithoutOutput (LacksFrom count xs) f) b found)

pub outputs_first : (r : Rows) (arcs : Arcs) (count : ℕ) (read : List Arc) (f : NetFault) → count ≡ length r.pools → read ≡ arcs.outs.items → AreArcsOf r arcs → LacksEarlier r (PoolWithoutOutput 0)
    → IsFirstOf PoolWithoutOutput (λ l. (l < count) × All (λ a. ¬ a.from ≡ l) read) f → IsFirstFault r f
outputs_first r arcs count read f a b are clear found =
    numbered_first PoolWithoutOutput without_output r (LacksFrom (length r.pools) arcs.outs.items) f clear (lacks_output r arcs are) (output_lacks r arcs are) (told_from r arcs count read f a b found)

pub outputs_next : (r : Rows) (arcs : Arcs) (count : ℕ) (read : List Arc) → count ≡ length r.pools → read ≡ arcs.outs.items → AreArcsOf r arcs → LacksEarlier r (PoolWithoutOutput 0)
    → ((l : ℕ) → l < count → ¬ All (λ a. ¬ a.from ≡ l) read) → LacksEarlier r TooManyPaths
outputs_next r arcs count read a b are clear none =
    numbered_next PoolWithoutOutput without_output r TooManyPaths clear
    (λ l bad. let h = output_lacks r arcs are l bad in none l (omega (arith, h.0, a)) (subst (λ (xs : List Arc). All (λ a. ¬ a.from ≡ l) xs) (sym b) h.1)) refl

pub many_paths_first : (r : Rows) (arcs : Arcs) (read : List Path) (f : NetFault) → read ≡ arcs.paths.items
    → AreArcsOf r arcs → LacksEarlier r TooManyPaths → (f ≡ TooManyPaths) × (512 < length read) → IsFirstFault r f
many_paths_first r arcs read f same are clear found =
    subst (IsFirstFault r) (sym found.0) (paths_first r (omega (arith, found.1, ap length same, ap length are.paths, length-map arcs.paths.items shown_path)) clear)

pub few_paths_next : (r : Rows) (arcs : Arcs) (read : List Path) → read ≡ arcs.paths.items → AreArcsOf r arcs
    → LacksEarlier r TooManyPaths → length read ≤ 512 → LacksEarlier r (OutOfRange kind.Source 0)
few_paths_next r arcs read same are clear few =
    paths_next r (OutOfRange kind.Source 0) (λ many. omega (arith, many, few, ap length same, ap length are.paths, length-map arcs.paths.items shown_path)) clear refl
