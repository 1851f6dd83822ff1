-- Worked networks, as files name them, and plans for them. Quantities are millionths.
use Rattle.std.specs.Prelude.{ℕ, List, [], ◌∷◌, get_or, Option, Some, None, ℤ, pos, neg_ℤ, codes}
use Rattle.pool_model.specs.Rows.{SourceRow, PoolRow, ProductRow, ArcRow, Rows}
use Rattle.pool_model.specs.Network.{Net, net_of}
use Rattle.pool_model.specs.Naming.{network_of}
use Rattle.pool_model.specs.Plan.{Plan, Written, plan_of, Obeys, cost_of}

abbrev pub net_in : Rows → Net
net_in r = net_of (network_of r)

-- the plan that a written plan stands for
abbrev pub plan_in : Rows → Written → Plan
plan_in r w = plan_of (net_in r) w

-- a written plan obeys the network of the rows, and what it costs there
abbrev pub ObeysIn : Rows → Written → Type 0
ObeysIn r w = Obeys (net_in r) (plan_in r w)

abbrev pub cost_in : Rows → Written → ℤ
cost_in r w = cost_of (net_in r) (plan_in r w)

abbrev pub source_row : List ℕ → ℤ → Option ℤ → List ℤ → SourceRow
source_row name cost max quality = record { name = name; cost = cost; max = max; quality = quality }

-- a pool without a maximum of its own, which removes nothing of the one quality
abbrev pub pool_row : List ℕ → PoolRow
pool_row name = record { name = name; max = None; ratio = pos 1000 ∷ [] }

-- an arc that costs nothing and has no maximum of its own
abbrev pub arc_row : List ℕ → List ℕ → ArcRow
arc_row from to = record { from = from; to = to; cost = pos 0; max = None }

-- a product that need not take anything, and has no least quality
abbrev pub product_row : List ℕ → ℤ → ℤ → List (Option ℤ) → List (Option ℤ) → ProductRow
product_row name price max least most = record { name = name; price = price; min = pos 0; max = max; least = least; most = most }

abbrev pub written : ℕ → List ℕ → List ℕ → List ℕ → Written
written base weights outflows direct = record { base = base; flow_base = 1; weights = weights; outflows = outflows; direct = direct }

-- A costs 6 and has sulfur 3; X brings 9, takes so much, and sulfur 3 at the most
abbrev pub one_source : ℤ → Rows
one_source max = record {
  qualities = codes "sulfur" ∷ [];
  sources = source_row (codes "A") (pos 6000000) (Some (pos 100000000)) (pos 3000000 ∷ []) ∷ [];
  pools = [];
  products = product_row (codes "X") (pos 9000000) max (None ∷ []) (Some (pos 3000000) ∷ []) ∷ [];
  arcs = arc_row (codes "A") (codes "X") ∷ [];
}

abbrev pub nothing : Rows
nothing = record { qualities = []; sources = []; pools = []; products = []; arcs = [] }

-- Haverly's network, with what source B costs
abbrev pub haverly : ℤ → Rows
haverly cost = record {
  qualities = codes "sulfur" ∷ [];
  sources = source_row (codes "A") (pos 6000000) None (pos 3000000 ∷ []) ∷ source_row (codes "B") cost None (pos 1000000 ∷ []) ∷ source_row (codes "C") (pos 10000000) None (pos 2000000 ∷ []) ∷ [];
  pools = pool_row (codes "P") ∷ [];
  products = product_row (codes "X") (pos 9000000) (pos 100000000) (None ∷ []) (Some (pos 2500000) ∷ []) ∷ product_row (codes "Y") (pos 15000000)
      (pos 200000000) (None ∷ []) (Some (pos 1500000) ∷ []) ∷ [];
  arcs = arc_row (codes "A") (codes "P") ∷ arc_row (codes "B") (codes "P") ∷ arc_row (codes "P") (codes "X") ∷ arc_row (codes "P") (codes "Y") ∷ arc_row (codes "C") (codes "X") ∷ arc_row (codes "C") (codes "Y") ∷ [];
}

-- all of B through the pool and as much of C into Y, whose sulfur is then at its most
abbrev pub haverly_best : Written
haverly_best = written 1 (0 ∷ 1 ∷ []) (0 ∷ 100000000 ∷ []) (0 ∷ 100000000 ∷ [])

-- the same with a pool of A and B, half and half
abbrev pub haverly_mixed : Written
haverly_mixed = written 2 (1 ∷ 1 ∷ []) (0 ∷ 100000000 ∷ []) (0 ∷ 100000000 ∷ [])

-- a quarter of A in the pool, and all that Y takes from it
abbrev pub pooled_haverly : Written
pooled_haverly = written 4 (1 ∷ 3 ∷ []) (0 ∷ 200000000 ∷ []) (0 ∷ 0 ∷ [])

-- two sources that feed a pool, and one product that takes any quality
abbrev pub two_feeds : Rows
two_feeds = record {
  qualities = codes "sulfur" ∷ [];
  sources = source_row (codes "A") (pos 6000000) None (pos 3000000 ∷ []) ∷ source_row (codes "B") (pos 16000000) None (pos 1000000 ∷ []) ∷ [];
  pools = pool_row (codes "P") ∷ [];
  products = product_row (codes "X") (pos 9000000) (pos 100000000) (None ∷ []) (None ∷ []) ∷ [];
  arcs = arc_row (codes "A") (codes "P") ∷ arc_row (codes "B") (codes "P") ∷ arc_row (codes "P") (codes "X") ∷ [];
}

-- a source without a maximum, and two products
abbrev pub two_products : Rows
two_products = record {
  qualities = [];
  sources = source_row (codes "A") (pos 1000000) None [] ∷ [];
  pools = [];
  products = product_row (codes "X") (pos 2000000) (pos 30000000) [] [] ∷ product_row (codes "Y") (pos 2000000) (pos 20000000) [] [] ∷ [];
  arcs = arc_row (codes "A") (codes "X") ∷ arc_row (codes "A") (codes "Y") ∷ [];
}

-- the outlets of a site, with loads and flows of waste water
abbrev pub wastewater : Rows
wastewater = record {
  qualities = codes "load" ∷ [];
  sources = source_row (codes "W1") (pos 1000000) (Some (pos 40000000)) (pos 120000000 ∷ []) ∷ source_row (codes "W2") (pos 0) (Some (pos 60000000))
      (pos 30000000 ∷ []) ∷ source_row (codes "fresh") (pos 350000) None (pos 0 ∷ []) ∷ [];
  pools = pool_row (codes "basin 1") ∷ pool_row (codes "basin 2") ∷ [];
  products = product_row (codes "river") (pos 3000000) (pos 80000000) (None ∷ []) (Some (pos 50000000) ∷ []) ∷ product_row (codes "sewer")
      (pos 1000000) (pos 100000000) (None ∷ []) (Some (pos 90000000) ∷ []) ∷ [];
  arcs = arc_row (codes "W1") (codes "basin 1") ∷ arc_row (codes "W2") (codes "basin 1") ∷ arc_row (codes "W2") (codes "basin 2") ∷ arc_row (codes "fresh") (codes "basin 2")
      ∷ arc_row (codes "basin 1") (codes "river") ∷ arc_row (codes "basin 1") (codes "sewer") ∷ arc_row (codes "basin 2") (codes "river") ∷ arc_row (codes "basin 2") (codes "sewer") ∷ arc_row (codes "fresh") (codes "river") ∷ [];
}

-- ---- each rule by itself

-- A and B feed the pool P, and B reaches X direct. A has 30 of the quality and sends 40 at the most, B has 10 and sends 45;
-- P takes 50, and X from 10 to 60 with the quality from 15 to 25.
abbrev pub strict : Rows
strict = record {
  qualities = codes "load" ∷ [];
  sources = source_row (codes "A") (pos 1) (Some (pos 40)) (pos 30 ∷ []) ∷ source_row (codes "B") (pos 2) (Some (pos 45)) (pos 10 ∷ []) ∷ [];
  pools = record { name = codes "P"; max = Some (pos 50); ratio = pos 1000 ∷ [] } ∷ [];
  products = record { name = codes "X"; price = pos 5; min = pos 10; max = pos 60; least = Some (pos 15) ∷ []; most = Some (pos 25) ∷ [] } ∷ [];
  arcs = arc_row (codes "A") (codes "P") ∷ arc_row (codes "B") (codes "P") ∷ arc_row (codes "P") (codes "X") ∷ arc_row (codes "B") (codes "X") ∷ [];
}

-- what flows from A and from B into P, from P to X, and from B to X
abbrev pub flows : ℕ → ℕ → ℕ → ℕ → ℕ → Plan
flows base a b out direct = record { base = base; feed = λ e. get_or (a ∷ b ∷ []) e 0; out = λ o. get_or (out ∷ []) o 0; direct = λ e. get_or (direct ∷ []) e 0 }

-- ---- pools that share a product

-- X takes from 15 to 25 of the quality; Y takes 15 at the most, and at least 5 of flow. A has 30, B 10 and C 20.
abbrev pub shared : Rows
shared = record {
  qualities = codes "load" ∷ [];
  sources = source_row (codes "A") (pos 6) None (pos 30 ∷ []) ∷ source_row (codes "B") (pos 16) None (pos 10 ∷ []) ∷ source_row (codes "C") (pos 10) None (pos 20 ∷ []) ∷ [];
  pools = pool_row (codes "P") ∷ pool_row (codes "Q") ∷ pool_row (codes "R") ∷ [];
  products = product_row (codes "X") (pos 9) (pos 100) (Some (pos 15) ∷ []) (Some (pos 25) ∷ [])
      ∷ record { name = codes "Y"; price = pos 15; min = pos 5; max = pos 200; least = None ∷ []; most = Some (pos 15) ∷ [] } ∷ [];
  arcs = arc_row (codes "A") (codes "P") ∷ arc_row (codes "B") (codes "P") ∷ arc_row (codes "A") (codes "Q") ∷ arc_row (codes "B") (codes "Q") ∷ arc_row (codes "P") (codes "X") ∷ arc_row (codes "P") (codes "Y")
      ∷ arc_row (codes "Q") (codes "Y") ∷ arc_row (codes "C") (codes "X") ∷ arc_row (codes "C") (codes "Y") ∷ arc_row (codes "B") (codes "R") ∷ arc_row (codes "R") (codes "Y") ∷ [];
}

-- Bases; the weights of A and B in P, of A and B in Q and of B in R; flows from P to X, P to Y, Q to Y and R to Y; flows from
-- C to X and to Y. Pools that send nothing are among them, and means at a limit.
abbrev pub over_bases : ℕ → ℕ → List ℕ → List ℕ → List ℕ → Written
over_bases base flow_base weights outflows direct = record { base = base; flow_base = flow_base; weights = weights; outflows = outflows; direct = direct }

abbrev pub shared_obeying : List Written
shared_obeying =
    over_bases 1 1 (1 ∷ 0 ∷ 1 ∷ 0 ∷ 1 ∷ []) (0 ∷ 0 ∷ 0 ∷ 5 ∷ []) (0 ∷ 0 ∷ [])
    ∷ over_bases 2 1 (1 ∷ 1 ∷ 0 ∷ 2 ∷ 2 ∷ []) (10 ∷ 0 ∷ 0 ∷ 10 ∷ []) (0 ∷ 0 ∷ [])
    ∷ over_bases 2 1 (1 ∷ 1 ∷ 0 ∷ 2 ∷ 2 ∷ []) (0 ∷ 10 ∷ 0 ∷ 10 ∷ []) (0 ∷ 0 ∷ [])
    ∷ over_bases 1 1 (1 ∷ 0 ∷ 0 ∷ 1 ∷ 1 ∷ []) (0 ∷ 10 ∷ 10 ∷ 20 ∷ []) (0 ∷ 0 ∷ [])
    ∷ over_bases 4 1 (1 ∷ 3 ∷ 1 ∷ 3 ∷ 4 ∷ []) (0 ∷ 10 ∷ 10 ∷ 0 ∷ []) (10 ∷ 0 ∷ [])
    ∷ over_bases 2 3 (1 ∷ 1 ∷ 0 ∷ 2 ∷ 2 ∷ []) (7 ∷ 8 ∷ 8 ∷ 0 ∷ []) (3 ∷ 0 ∷ [])
    ∷ []

-- in order: Y takes too little; its quality is too high, twice; that of X is too low; Y's is too high by a part of a unit; Y takes
-- too much; the weights in P don't sum to the base
abbrev pub shared_breaking : List Written
shared_breaking =
    over_bases 1 1 (1 ∷ 0 ∷ 1 ∷ 0 ∷ 1 ∷ []) (0 ∷ 0 ∷ 0 ∷ 4 ∷ []) (0 ∷ 0 ∷ [])
    ∷ over_bases 2 1 (1 ∷ 1 ∷ 0 ∷ 2 ∷ 2 ∷ []) (0 ∷ 11 ∷ 0 ∷ 10 ∷ []) (0 ∷ 0 ∷ [])
    ∷ over_bases 1 1 (1 ∷ 0 ∷ 0 ∷ 1 ∷ 1 ∷ []) (0 ∷ 10 ∷ 10 ∷ 19 ∷ []) (0 ∷ 0 ∷ [])
    ∷ over_bases 1 1 (0 ∷ 1 ∷ 0 ∷ 1 ∷ 1 ∷ []) (10 ∷ 0 ∷ 0 ∷ 5 ∷ []) (0 ∷ 0 ∷ [])
    ∷ over_bases 2 3 (1 ∷ 1 ∷ 0 ∷ 2 ∷ 2 ∷ []) (7 ∷ 8 ∷ 7 ∷ 0 ∷ []) (3 ∷ 0 ∷ [])
    ∷ over_bases 1 1 (0 ∷ 1 ∷ 0 ∷ 1 ∷ 1 ∷ []) (0 ∷ 100 ∷ 101 ∷ 0 ∷ []) (0 ∷ 0 ∷ [])
    ∷ over_bases 2 1 (1 ∷ 0 ∷ 0 ∷ 2 ∷ 2 ∷ []) (0 ∷ 10 ∷ 10 ∷ 0 ∷ []) (0 ∷ 0 ∷ [])
    ∷ []

-- ---- arcs that cost and hold, and pools that remove

-- A costs 6 and has sulfur 3, of which so many thousandths leave the pool P; the arc from A costs 0.5 and holds 80; X brings 9 and
-- takes 100 with sulfur 1.5 at the most
abbrev pub desulfured : ℤ → Rows
desulfured ratio = record {
  qualities = codes "sulfur" ∷ [];
  sources = source_row (codes "A") (pos 6000000) (Some (pos 100000000)) (pos 3000000 ∷ []) ∷ [];
  pools = record { name = codes "P"; max = None; ratio = ratio ∷ [] } ∷ [];
  products = product_row (codes "X") (pos 9000000) (pos 100000000) (None ∷ []) (Some (pos 1500000) ∷ []) ∷ [];
  arcs = record { from = codes "A"; to = codes "P"; cost = pos 500000; max = Some (pos 80000000) } ∷ arc_row (codes "P") (codes "X") ∷ [];
}

-- X takes from 15 to 20 of the load. Half of A's 30 leaves the pool P, and B has 25.
abbrev pub cleaned : Rows
cleaned = record {
  qualities = codes "load" ∷ [];
  sources = source_row (codes "A") (pos 1) None (pos 30 ∷ []) ∷ source_row (codes "B") (pos 2) None (pos 25 ∷ []) ∷ [];
  pools = record { name = codes "P"; max = None; ratio = pos 500 ∷ [] } ∷ [];
  products = product_row (codes "X") (pos 5) (pos 60) (Some (pos 15) ∷ []) (Some (pos 20) ∷ []) ∷ [];
  arcs = arc_row (codes "A") (codes "P") ∷ arc_row (codes "P") (codes "X") ∷ arc_row (codes "B") (codes "X") ∷ [];
}

-- A and B feed the pool P, and B reaches X direct: 20 at the most from A, 30 from P and 7 from B to X. A costs 1, B costs 2, X brings
-- 5; the arcs cost 3 from A, 1 less than nothing from P, and 2 from B to X.
abbrev pub piped : Rows
piped = record {
  qualities = [];
  sources = source_row (codes "A") (pos 1) None [] ∷ source_row (codes "B") (pos 2) None [] ∷ [];
  pools = record { name = codes "P"; max = None; ratio = [] } ∷ [];
  products = product_row (codes "X") (pos 5) (pos 60) [] [] ∷ [];
  arcs = record { from = codes "A"; to = codes "P"; cost = pos 3; max = Some (pos 20) } ∷ arc_row (codes "B") (codes "P")
      ∷ record { from = codes "P"; to = codes "X"; cost = neg_ℤ (pos 1); max = Some (pos 30) }
      ∷ record { from = codes "B"; to = codes "X"; cost = pos 2; max = Some (pos 7) } ∷ [];
}
