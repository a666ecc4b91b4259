-- What lets every frame of a link have a spelling.
use Rattle.std.specs.Prelude.{◌≤◌, ◌≡◌, ◌<◌, ◌^◌, All, length}
use Rattle.ivy_model.specs.declared.Config.{Config}
use Rattle.ivy_wire.specs.stated.Spelling.{FitsMessage}
use Rattle.ivy_link.specs.stated.Linked.{Peer, Linked}

-- no more is kept than was sent, each message has a spelling, and numbers take 8 bytes at most
pub record FitsPeer (c : Config) (p : Peer) : Type 0 where
  pub sent : p.sent < 2 ^ 64
  pub delivered : p.delivered < 2 ^ 64
  pub few : length p.kept ≤ p.sent
  pub kept : All (FitsMessage c) p.kept

-- the link has a side to each node, and each fits
pub record FitsLink (c : Config) (l : Linked) : Type 0 where
  pub me : l.me < c.nodes
  pub nodes : length l.peers ≡ c.nodes
  pub peers : All (FitsPeer c) l.peers
