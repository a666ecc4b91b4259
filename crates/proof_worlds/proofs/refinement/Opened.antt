-- The links of a world as it begins have delivered nothing.
use Rattle.std.proofs.Common.{◌≡◌, ℕ, zero, suc, ◌+◌, List, [], ◌∷◌, map, get_or, replicate, slice_get, Some, option_map, refl, sym, ap, ◌∙◌, inl, inr, arith}
use Rattle.std.proofs.lemmas.List.{get_or_past, length-map}
use Rattle.std.proofs.lemmas.Option.{slice_get_cases, same_Some, none-some, slice_get-map, get_or_from_slice_get}
use Rattle.ivy_model.specs.declared.Config.{Config}
use Rattle.ivy_link.specs.stated.Linked.{Peer, fresh, first_link, peer_at}
use Rattle.ivy_link.specs.stated.Paired.{link_at}
use Rattle.ivy_program.specs.stated.Programs.{Program}
use Rattle.ivy_moves.specs.stated.Nodes.{Node}
use Rattle.ivy_moves.specs.stated.Following.{fifo_of, links_of}
use Rattle.ivy_host.specs.stated.Hosts.{Host}
use Rattle.ivy_host.specs.stated.Openings.{Start, opening, first_nodes}

-- a new link has delivered nothing
fresh_peer : (n j : ℕ) → get_or (replicate n fresh) j fresh ≡ fresh
fresh_peer zero j = refl
fresh_peer (suc n) zero = refl
fresh_peer (suc n) (suc j) = fresh_peer n j

module _ {S : Type 0} (start : Start S) (c : Config) where
  first_link_there : (me : ℕ) (ps : List Program) (i : ℕ) (n : Node (Host S))
      → slice_get (first_nodes start c me ps) i ≡ Some n → n.link ≡ first_link (me + i) c.nodes
  first_link_there me [] i n is = absurd (none-some n is)
  first_link_there me (p ∷ ps) zero n is =
      ap (λ (m : Node (Host S)). m.link) (sym (same_Some _ n is))
      ∙ ap (λ k. first_link k c.nodes) (let f : me ≡ me + 0 = omega arith in f)
  first_link_there me (p ∷ ps) (suc i) n is =
      first_link_there (me + 1) ps i n is
      ∙ ap (λ k. first_link k c.nodes) (let f : me + 1 + i ≡ me + suc i = omega arith in f)

  link_there : (ns : List (Node (Host S))) (j : ℕ) (n : Node (Host S)) → slice_get ns j ≡ Some n
      → link_at (map (λ (m : Node (Host S)). m.link) ns) j ≡ n.link
  link_there ns j n is =
      get_or_from_slice_get (map (λ (m : Node (Host S)). m.link) ns) j n.link (first_link j 0)
      (slice_get-map (λ (m : Node (Host S)). m.link) ns j
      ∙ ap (option_map (λ (m : Node (Host S)). m.link)) is)

  pub opening_delivered : (programs : List Program) (i j : ℕ)
      → (fifo_of (opening start c programs) (λ i j. [])).delivered i j ≡ 0
  opening_delivered programs i j = elim (slice_get_cases (opening start c programs).nodes j).1 [
    | inl there ↦
        ap (λ l. (peer_at l i).delivered)
        (link_there (opening start c programs).nodes j there.0 there.2
        ∙ first_link_there 0 programs j there.0 there.2)
        ∙ ap (λ (q : Peer). q.delivered) (fresh_peer c.nodes i)
    | inr past ↦
        ap (λ l. (peer_at l i).delivered)
        (get_or_past (links_of (opening start c programs)) j (first_link j 0)
        (rw (length-map (opening start c programs).nodes (λ (n : Node (Host S)). n.link)) past.0))
  ]
