-- In a network that loses, repeats and reorders frames, each node is given what another one sent
-- it, in the order sent.
use Rattle.std.specs.Prelude.{◌≡◌, ◌≢◌, ℕ, zero, suc, ◌<◌, List, [], ◌∷◌, ◌++◌, All, Contains, length, slice_set, true, ◌&&◌, ◌==◌, option_to_list, if◌then◌else◌}
use Rattle.ivy_wire.specs.stated.Data.{Message, Frame, Parcel}
use Rattle.ivy_link.specs.declared.verdict.Verdict.{Verdict}
use Rattle.ivy_link.specs.declared.verdict.Verdict.TheVariants.{Next, Repeat, Ahead, NotMine}
use Rattle.ivy_link.specs.stated.Linked.{Linked, first_link, after_sends, frames_of, has_numbers}
use Rattle.ivy_link.specs.stated.Accepted.{offered, accepted}
use Rattle.ivy_link.specs.stated.Pulsed.{after_pulse, frames_again}
use Rattle.ivy_link.specs.stated.Paired.{link_at, extended, IsParcelOf, IsBeginning}

-- the links of all nodes, the frames ever made, and what was sent and delivered from each node to
-- each other
pub record LinkNet : Type 0 where
  pub links : List Linked
  pub made : List Frame
  pub sent : ℕ → ℕ → List Message
  pub delivered : ℕ → ℕ → List Message

-- what a node of such a network does
pub data Action : Type 0 where
  Send : (node : ℕ) (parcels : List Parcel) → Action
  Accept : (node : ℕ) (frame : Frame) → Action
  Pulse : (node : ℕ) (to : ℕ) → Action

-- a node sends parcels of its own to others as long as it has numbers, any frame ever made may come
-- to any node, at any time and any number of times, and a node may send any other one again what it
-- keeps
abbrev pub MayDo : LinkNet → Action → Type 0
MayDo n (Send i ps) = (i < length n.links) × All (IsParcelOf (length n.links) i) ps
    × (has_numbers (link_at n.links i) ps ≡ true)
MayDo n (Accept j f) = (j < length n.links) × Contains n.made f
MayDo n (Pulse i j) = (i < length n.links) × (j < length n.links) × (i ≢ j)

-- the message of a frame that is Next is handed over
abbrev pub handed : Verdict → (ℕ → ℕ → List Message) → ℕ → Frame → ℕ → ℕ → List Message
handed Next delivered node f i j =
    if i == f.source && j == node then delivered i j ++ option_to_list f.body else delivered i j
handed Repeat delivered node f i j = delivered i j
handed Ahead delivered node f i j = delivered i j
handed NotMine delivered node f i j = delivered i j

-- the network after this action
abbrev pub done : LinkNet → Action → LinkNet
done n (Send i ps) = record {
  links = slice_set n.links i (after_sends (link_at n.links i) ps);
  made = n.made ++ frames_of (link_at n.links i) ps;
  sent = extended n.sent ps;
  delivered = n.delivered;
}
done n (Accept j f) = record {
  links = slice_set n.links j (accepted (link_at n.links j) f);
  made = n.made;
  sent = n.sent;
  delivered = handed (offered (link_at n.links j) f) n.delivered j f;
}
done n (Pulse i j) = record {
  links = slice_set n.links i (after_pulse (link_at n.links i) j);
  made = n.made ++ frames_again (link_at n.links i) j;
  sent = n.sent;
  delivered = n.delivered;
}

-- the actions are done one after another
abbrev pub all_done : LinkNet → List Action → LinkNet
all_done n [] = n
all_done n (a ∷ more) = all_done (done n a) more

-- each of these actions may be done after those before it
abbrev pub MayDoAll : LinkNet → List Action → Type 0
MayDoAll n [] = Unit {0}
MayDoAll n (a ∷ more) = MayDo n a × MayDoAll (done n a) more

-- the links of so many nodes, from the given number up
abbrev pub links_from : ℕ → ℕ → ℕ → List Linked
links_from nodes zero from = []
links_from nodes (suc more) from = first_link from nodes ∷ links_from nodes more (suc from)

-- no frame was made yet
abbrev pub first_net : ℕ → LinkNet
first_net nodes =
    record { links = links_from nodes nodes 0; made = []; sent = λ i j. []; delivered = λ i j. [] }

-- whatever is done, what was delivered from a node to another is a beginning of what was sent
abbrev pub DeliversInOrder : Type 0
DeliversInOrder = (nodes : ℕ) (actions : List Action) → MayDoAll (first_net nodes) actions
    → (i j : ℕ)
    → IsBeginning ((all_done (first_net nodes) actions).delivered i j)
    ((all_done (first_net nodes) actions).sent i j)
