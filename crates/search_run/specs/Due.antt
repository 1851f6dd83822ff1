-- What comes next for a search under the orders.
use Rattle.std.specs.Prelude.{◌≡◌, ℕ, ◌<◌, Option, None, Some, option_map}
use Rattle.pool_model.specs.Network.{Net}
use Rattle.row_model.specs.Entries as entries
use Rattle.row_model.specs.Entries.{Searched, after, IsEntryInOrder}
use Rattle.box_space.specs.Views.{shown_proof, shown_split}
use Rattle.box_tree.specs.Views.{shown_entry}
use Rattle.box_tree.specs.declared.entry.Entry.{Entry}
use Rattle.box_tree.specs.declared.entry.Entry.TheVariants.{Root, SplitOf, Improve}
use Rattle.search_core.specs.Searches.{Searching, searched, IsSearchOf}
use Rattle.search_core.specs.Cases.{IsRepairedAfter}
use Rattle.search_core.specs.declared.next.Next.{Next}
use Rattle.search_core.specs.declared.next.Next.TheVariants.{Do, End}
use Rattle.search_run.specs.Left.{left}
use Rattle.search_run.specs.Runs.{IsEnd}
use Rattle.search_run.specs.Steps.{IsDue, IsSqueezed, IsStep}
use Rattle.search_run.specs.declared.orders.Orders.{Orders}

-- the leaf that an entry cuts, where it is a split
abbrev pub split_leaf : Entry → Option ℕ
split_leaf (SplitOf split left right) = Some split.leaf
split_leaf (Root proof) = None
split_leaf (Improve plan) = None

-- the leaf that is cut, where a split is due
abbrev pub cut_leaf : Next → Option ℕ
cut_leaf (Do e) = split_leaf e
cut_leaf (End ended) = None

-- once it took the entry, the search has fewer steps left
abbrev pub LeavesLess : Net → Searching → entries.Entry → Type 0
LeavesLess n s e = (t : Searching) → IsSearchOf n t → t.options ≡ s.options → searched t ≡ after (searched s) e
    → IsRepairedAfter n (searched s) e s.repaired t.repaired → left t < left s

-- what is chosen, before its halves are raised: an entry that is in order and due, after which fewer steps are left; or the end of the run
abbrev pub IsChosenNext : Net → Orders → Searching → Next → Type 0
IsChosenNext n o s (Do e) = IsEntryInOrder n (searched s) (shown_entry e) × IsDue n o (searched s) (shown_entry e) × LeavesLess n s (shown_entry e)
IsChosenNext n o s (End ended) = IsEnd n o (searched s) ended

-- what is due: an entry that is a step, after which fewer steps are left; or the end of the run
abbrev pub IsDueNext : Net → Orders → Searching → Next → Type 0
IsDueNext n o s (Do e) = IsStep n o (searched s) (shown_entry e) × LeavesLess n s (shown_entry e)
IsDueNext n o s (End ended) = IsEnd n o (searched s) ended

-- an entry that is in order and squeezes the least leaf
abbrev pub IsSqueezeEntry : Net → Orders → Searched → Entry → Type 0
IsSqueezeEntry n o s (SplitOf split left right) = IsEntryInOrder n s (shown_entry (SplitOf split left right))
    × IsSqueezed n o s (shown_split split) (option_map shown_proof left) (option_map shown_proof right)
IsSqueezeEntry n o s (Root proof) = ⊥
IsSqueezeEntry n o s (Improve plan) = ⊥
