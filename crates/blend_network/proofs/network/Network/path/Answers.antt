use Rattle.std.proofs.Common.{◌≡◌, ◌<◌, ℕ, length, map, get_or, sym, ap, ◌∙◌, arith}
use Rattle.pool_model.specs.Network.{Network, net_of}
use Rattle.pool_model.specs.Paths.{Path, paths_of, no_path, path_at}
use Rattle.pool_model.proofs.Paths.{path_at-way}
use Rattle.network_parts.specs.Views.{shown_path}
use Rattle.network_parts.proofs.Mapped.{read-map}
use Rattle.blend_network.proofs.network.Network.path.Goals as goal

pub returns : goal.returns
returns c =
    let n = net_of c.args.self.now in
    let kept : map shown_path c.self.inside.paths.items ≡ paths_of (net_of c.args.self.now) = c.self.invariant.paths ∙ ap (λ (v : Network). paths_of (net_of v)) c.self.view_is in
    let there : c.args.n < length (map shown_path c.self.inside.paths.items) = omega (arith, c.requires, ap length kept) in
    let at : path_at (net_of c.args.self.now) c.args.n ≡ shown_path c.index.result.now
    = ap (λ ps. get_or ps c.args.n no_path) (sym kept) ∙ read-map shown_path c.self.inside.paths.items c.args.n c.index.result.now no_path there c.index.ensures in
    let feed : c.arcs.result.0 ≡ (path_at (net_of c.args.self.now) c.args.n).feed = ap (λ (r : ℕ × ℕ). r.0) c.arcs.ensures ∙ ap (λ (p : Path). p.feed) (sym at) in
    let out : c.arcs.result.1 ≡ (path_at (net_of c.args.self.now) c.args.n).out = ap (λ (r : ℕ × ℕ). r.1) c.arcs.ensures ∙ ap (λ (p : Path). p.out) (sym at) in
    let way = path_at-way n c.args.n c.arcs.result.0 c.arcs.result.1 c.requires feed out in
    record { feed = feed; out = out; way = way; known_feed = way.0; known_out = way.1 }
