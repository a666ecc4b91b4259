-- A world whose links are new and in which nothing was sent follows the FIFO world in which
-- nothing was posted.
use Rattle.std.proofs.Common.{◌≡◌, ◌⊎◌, ℕ, zero, suc, ◌^◌, ◌<◌, ◌≤◌, [], length, map, get_or, replicate, All, refl, sym, ap, subst, ◌∙◌, inl, inr, arith}
use Rattle.std.proofs.lemmas.List.{length-map, length-replicate, get_or_past}
use Rattle.std.proofs.lemmas.List.Elements.{All-nil}
use Rattle.std.proofs.lemmas.Option.{slice_get_cases}
use Rattle.ivy_model.specs.declared.Config.{Config}
use Rattle.ivy_wire.specs.stated.Spelling.{FitsMessage}
use Rattle.ivy_link.specs.stated.Linked.{Peer, Linked, fresh, first_link, peer_at}
use Rattle.ivy_link.specs.stated.Paired.{IsPaired, link_at}
use Rattle.ivy_moves.specs.stated.Nodes.{Node}
use Rattle.ivy_moves.specs.stated.Worlds.{World}
use Rattle.ivy_moves.specs.stated.Following.{links_of, fifo_of, IsString, Follows, IsOpening}
use Rattle.ivy_moves.proofs.Places.{link_of}

fresh-at : (n j : ℕ) → get_or (replicate n fresh) j fresh ≡ fresh
fresh-at zero j = refl
fresh-at (suc n) zero = refl
fresh-at (suc n) (suc j) = fresh-at n j

module _ {C : Type 0} (c : Config) (Sound : ℕ → C → Type 0) (w : World C)
    (open_so : IsOpening c Sound w) where
  links-new : (i : ℕ)
      → (link_at (links_of w) i ≡ first_link i c.nodes) ⊎ (link_at (links_of w) i ≡ first_link i 0)
      × (length (links_of w) ≤ i)
  links-new i =
      elim (slice_get_cases w.nodes i).1 [
        | inl there ↦ inl (link_of w.nodes i there.0 there.2 ∙ open_so.links i there.0 there.2)
        | inr past ↦
            inr (
              get_or_past (links_of w) i (first_link i 0)
                  (rw (length-map w.nodes (λ (n : Node C). n.link)) past.0),
              rw (length-map w.nodes (λ (n : Node C). n.link)) past.0,
            )
      ]

  link-new : (i : ℕ) → i < length (links_of w) → link_at (links_of w) i ≡ first_link i c.nodes
  link-new i lt = elim (links-new i) [ inl is ↦ is | inr past ↦ absurd (omega (arith, lt, past.1)) ]

  peers-new : (i j : ℕ) → peer_at (link_at (links_of w) i) j ≡ fresh
  peers-new i j =
      elim (links-new i) [
        | inl is ↦ ap (λ l. peer_at l j) is ∙ fresh-at c.nodes j
        | inr past ↦ ap (λ l. peer_at l j) past.0 ∙ fresh-at 0 j
      ]

  long : length (links_of w) ≡ c.nodes
  long = length-map w.nodes (λ (n : Node C). n.link) ∙ open_so.nodes

  paired-new : IsPaired (links_of w) (λ i j. [])
  paired-new = record {
    me = λ i lt. ap (λ (l : Linked). l.me) (link-new i lt);
    peers = λ i lt. ap (λ (l : Linked). length l.peers) (link-new i lt)
        ∙ length-replicate c.nodes fresh ∙ sym long;
    counted = λ i j lti ltj. ap (λ (p : Peer). p.sent) (peers-new i j);
    delivered =
        λ i j lti ltj. subst (λ (p : Peer). p.delivered ≤ 0) (sym (peers-new j i)) (omega arith);
    kept = λ i j lti ltj. ([], sym (ap (λ (p : Peer). p.kept) (peers-new i j)));
  }

  pub opening_follows : Follows c Sound w (λ i j. [])
  opening_follows = record {
    nodes = open_so.nodes;
    sound = open_so.sound;
    paired = paired-new;
    numbers = λ i j. subst (λ (p : Peer). p.sent < 2 ^ 64) (sym (peers-new i j)) (omega arith);
    fits = λ i j. All-nil (FitsMessage c);
    strings =
        subst (All (IsString c (λ i j. []))) (sym open_so.sent) (All-nil (IsString c (λ i j. [])));
    early = λ i. subst (All (IsString c (λ a b. []))) (sym (open_so.early i))
        (All-nil (IsString c (λ a b. [])));
  }

  -- nothing was posted or delivered in its FIFO world
  pub opening_ordered : fifo_of w (λ i j. [])
      ≡ record {
        cores = map (λ (n : Node C). n.core) w.nodes;
        posted = λ i j. [];
        delivered = λ i j. 0;
      }
  opening_ordered = λ k. record {
    cores = map (λ (n : Node C). n.core) w.nodes;
    posted = λ i j. [];
    delivered = λ i j. ap (λ (p : Peer). p.delivered) (peers-new j i) k;
  }
