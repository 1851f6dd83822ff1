-- The canonical text of a network: its parts in the lists of one object, with no space.
use Rattle.std.specs.Prelude.{ℕ, List, [], ◌∷◌, codes, if◌then◌else◌}
use Rattle.serde_json.specs.Data.{Data, number, unsigned, string, object}
use Rattle.serde_json.specs.Written.{compact_text}
use Rattle.pool_model.specs.Network.{Network}
use Rattle.pool_model.specs.Plain.{is_plain}
use Rattle.json_walk.specs.declared.version.Version.{Version}
use Rattle.json_walk.specs.declared.version.Version.TheVariants.{One, Two}
use Rattle.json_walk.specs.Walk.{version_number}
use Rattle.blend_network.specs.Canonical.{canonical_arcs}
use Rattle.network_values.specs.Values.{members_in, list_data, source_data, pool_data, product_data, arc_data}

-- the first version that can say the network
abbrev pub version_of : Network → Version
version_of n = if is_plain n then One else Two

-- what a text of a version says of the network: each list in its order, and the arcs as feeds, then outs, then directs
abbrev pub data_in : Version → Network → Data
data_in version n = object (members_in (
    (codes "arcs", list_data (arc_data version) (canonical_arcs n))
    ∷ (codes "pools", list_data (pool_data version n.qualities) n.pools)
    ∷ (codes "products", list_data (product_data n.qualities) n.products)
    ∷ (codes "qualities", list_data string n.qualities)
    ∷ (codes "sources", list_data (source_data n.qualities) n.sources)
    ∷ (codes "version", number (unsigned (version_number version)))
    ∷ []))

-- the network in the first version that can say it
abbrev pub network_data : Network → Data
network_data n = data_in (version_of n) n

-- the canonical text of a network
unfoldable pub canonical_text : Network → List ℕ
canonical_text n = compact_text (network_data n)
