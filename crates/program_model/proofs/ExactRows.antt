-- All rows of an exact program are met by its points.
use Rattle.std.proofs.Common.{◌*◌, ◌++◌}
use Rattle.pool_model.specs.Network.{Net}
use Rattle.row_model.specs.Catalogue.{HoldsOfEach, network_families, pq_families}
use Rattle.row_model.specs.Lift.{MeetsRow}
use Rattle.row_model.proofs.Families.{each-append}
use Rattle.row_model.proofs.NetworkRows.{network_rows-met}
use Rattle.program_model.specs.Points.{ProportionPoint, QualityPoint, proportion_flows, quality_flows}
use Rattle.program_model.specs.Programs.{IsPointOfP, IsPointOfQ, IsPointOfPq}
use Rattle.program_model.specs.Rows.{exact_p_families, exact_q_families, proportion_values, quality_values, SolvesP, SolvesQ, SolvesPq}
use Rattle.program_model.proofs.PathRows.{q_rows-met, pq_rows-met}
use Rattle.program_model.proofs.MixedRows.{p_rows-met}

pub point_of_p-rows : (n : Net) (q : QualityPoint) → IsPointOfP n q → HoldsOfEach (MeetsRow n (quality_values q) (q.base * q.qual_base)) (network_families n ++ exact_p_families n)
point_of_p-rows n q h =
    each-append (MeetsRow n (quality_values q) (q.base * q.qual_base)) (network_families n) (exact_p_families n)
    (network_rows-met n q.qual_base (quality_flows q) (quality_values q) h.carries) (p_rows-met n q h)

pub point_of_q-rows : (n : Net) (q : ProportionPoint) → IsPointOfQ n q → HoldsOfEach (MeetsRow n (proportion_values q) (q.base * q.prop_base)) (network_families n ++ exact_q_families n)
point_of_q-rows n q h =
    each-append (MeetsRow n (proportion_values q) (q.base * q.prop_base)) (network_families n) (exact_q_families n)
    (network_rows-met n q.prop_base (proportion_flows q) (proportion_values q) h.carries) (q_rows-met n q h)

pub point_of_pq-rows : (n : Net) (q : ProportionPoint) → IsPointOfPq n q
    → HoldsOfEach (MeetsRow n (proportion_values q) (q.base * q.prop_base)) (network_families n ++ (exact_q_families n ++ pq_families n))
point_of_pq-rows n q h =
    each-append (MeetsRow n (proportion_values q) (q.base * q.prop_base)) (network_families n) (exact_q_families n ++ pq_families n)
    (network_rows-met n q.prop_base (proportion_flows q) (proportion_values q) h.of_q.carries)
    (each-append (MeetsRow n (proportion_values q) (q.base * q.prop_base)) (exact_q_families n) (pq_families n) (q_rows-met n q h.of_q) (pq_rows-met n q h))

-- ---- with the products: the programs by their rows

pub point_of_p-solves : (n : Net) (q : QualityPoint) → IsPointOfP n q → SolvesP n q
point_of_p-solves n q h = record { base = h.base; qual_base = h.qual_base; rows = point_of_p-rows n q h; products = h.products; low = h.low; high = h.high; maxima = h.carries.arcs }

pub point_of_q-solves : (n : Net) (q : ProportionPoint) → IsPointOfQ n q → SolvesQ n q
point_of_q-solves n q h = record { base = h.base; prop_base = h.prop_base; rows = point_of_q-rows n q h; products = h.products; maxima = h.carries.arcs }

pub point_of_pq-solves : (n : Net) (q : ProportionPoint) → IsPointOfPq n q → SolvesPq n q
point_of_pq-solves n q h = record { base = h.of_q.base; prop_base = h.of_q.prop_base; rows = point_of_pq-rows n q h; products = h.of_q.products; maxima = h.of_q.carries.arcs }
