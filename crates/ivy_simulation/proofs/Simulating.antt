-- Drawn moves that are made one after another.
use Rattle.std.proofs.Common.{◌≡◌, ℕ, suc, ◌+◌, [], ◌∷◌, subst, arith}
use Rattle.rand_pcg.specs.Lcg.{Lcg}
use Rattle.ivy_model.specs.declared.Config.{Config}
use Rattle.ivy_moves.specs.declared.Move.{Move}
use Rattle.ivy_moves.specs.stated.Worlds.{World}
use Rattle.ivy_host.specs.stated.Hosts.{Host}
use Rattle.ivy_host.specs.stated.Managers.{Managed}
use Rattle.proof_worlds.specs.stated.Reached.{IsLedTo}
use Rattle.ivy_texts.specs.Drawn.{drawn}
use Rattle.ivy_simulation.specs.Simulated.{DrawnTo}

-- whatever is drawn from here on, it was drawn from the start, with so many moves before it
abbrev pub IsDrawnSince : Config → Lcg → World (Host Managed) → ℕ → Lcg → World (Host Managed)
    → Type 0
IsDrawnSince c g start made h w =
    (more : ℕ) (end : World (Host Managed)) → DrawnTo c h more w end
    → DrawnTo c g (made + more) start end

-- one more move is drawn and made
pub drawn_on : (c : Config) (g h h' : Lcg) (start w w' : World (Host Managed)) (made : ℕ)
    (move : Move) → IsDrawnSince c g start made h w → (move, h') ≡ drawn c.nodes w.sent h
    → IsLedTo c w (move ∷ []) w' → IsDrawnSince c g start (made + 1) h' w'
drawn_on c g h h' start w w' made move since draws led more end later =
    let first : IsLedTo c w ((drawn c.nodes w.sent h).0 ∷ []) w' =
    subst (λ (p : Move × Lcg). IsLedTo c w (p.0 ∷ []) w') draws led in
    let rest : DrawnTo c (drawn c.nodes w.sent h).1 more w' end =
    subst (λ (p : Move × Lcg). DrawnTo c p.1 more w' end) draws later in
    let count : made + suc more ≡ made + 1 + more = omega arith in
    subst (λ k. DrawnTo c g k start end) count (since (suc more) end (w', first, rest))
