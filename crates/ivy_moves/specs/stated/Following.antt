-- How a world of strings follows the FIFO world.
use Rattle.std.specs.Prelude.{◌≡◌, ℕ, ◌<◌, ◌^◌, List, [], length, map, All, slice_get, Some}
use Rattle.ivy_model.specs.declared.Config.{Config}
use Rattle.ivy_wire.specs.stated.Data.{Message, Frame}
use Rattle.ivy_wire.specs.stated.Spelling.{FitsMessage, Spells}
use Rattle.ivy_link.specs.stated.Linked.{Linked, first_link, peer_at}
use Rattle.ivy_link.specs.stated.Paired.{IsPaired, IsMade, link_at}
use Rattle.ivy_moves.specs.stated.Nodes.{Node}
use Rattle.ivy_moves.specs.stated.Worlds.{World, early_of}
use Rattle.ivy_moves.specs.stated.FifoWorld.{FifoWorld}

module _ {C : Type 0} where
  abbrev pub links_of : World C → List Linked
  links_of w = map (λ (n : Node C). n.link) w.nodes

  -- the FIFO world in which these messages were posted, and those delivered that the links count
  abbrev pub fifo_of : World C → (ℕ → ℕ → List Message) → FifoWorld C
  fifo_of w posted = record {
    cores = map (λ (n : Node C). n.core) w.nodes;
    posted = posted;
    delivered = λ i j. (peer_at (link_at (links_of w) j) i).delivered;
  }

-- the bytes spell a frame that one of the nodes made for another one
abbrev pub IsString : Config → (ℕ → ℕ → List Message) → List ℕ → Type 0
IsString c posted bytes = (f : Frame) × Spells c f bytes × IsMade c.nodes posted f

module _ {C : Type 0} (c : Config) (Sound : ℕ → C → Type 0) where
  -- the links belong together and have not run out of numbers, each string ever sent spells a frame
  -- that one of the links made, and the cores are sound
  pub record Follows (w : World C) (posted : ℕ → ℕ → List Message) : Type 0 where
    pub nodes : length w.nodes ≡ c.nodes
    pub sound : (i : ℕ) (n : Node C) → slice_get w.nodes i ≡ Some n → Sound i n.core
    pub paired : IsPaired (links_of w) posted
    pub numbers : (i j : ℕ) → (peer_at (link_at (links_of w) i) j).sent < 2 ^ 64
    pub fits : (i j : ℕ) → All (FitsMessage c) (posted i j)
    pub strings : All (IsString c posted) w.sent
    pub early : (i : ℕ) → All (IsString c posted) (early_of w i)

  -- each core is sound, no link has sent or been given anything, and no string was sent
  pub record IsOpening (w : World C) : Type 0 where
    pub nodes : length w.nodes ≡ c.nodes
    pub sound : (i : ℕ) (n : Node C) → slice_get w.nodes i ≡ Some n → Sound i n.core
    pub links : (i : ℕ) (n : Node C) → slice_get w.nodes i ≡ Some n → n.link ≡ first_link i c.nodes
    pub sent : w.sent ≡ []
    pub early : (i : ℕ) → early_of w i ≡ []
