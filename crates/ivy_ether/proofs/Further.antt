-- Lists that go on from the parts of a run are the parts of a run again.
use Rattle.std.proofs.Common.{◌≡◌, ◌⊎◌, ℕ, ◌≤◌, List, [], ◌++◌, length, slice_get, Some, refl, sym, ap, subst, ◌∙◌, inl, inr, arith, append-nil}
use Rattle.std.proofs.lemmas.Option.{same_Some, slice_get_within}
use Rattle.ivy_model.specs.declared.Config.{Config}
use Rattle.ivy_moves.specs.stated.Cores.{Core}
use Rattle.ivy_moves.specs.Marks.{Mark}
use Rattle.ivy_moves.specs.stated.Nodes.{Node, Effect, stays}
use Rattle.ivy_moves.specs.Parts.{AllHappen, AllCanBeMade, AreParts, GoOn}
use Rattle.ivy_moves.specs.stated.Worlds.{World}
use Rattle.ivy_moves.proofs.GoingOn.{parts_go_on}
use Rattle.ivy_moves.proofs.Parts.{runs_are_their_parts}
use Rattle.ivy_moves.proofs.Splitting.{IsSplit, all-split, same-effect, part_sent}
use Rattle.ivy_ether.specs.Going.{ListGoesOn, ListsGoOn}

module _ {C : Type 0} (rules : Core C) (c : Config) (opening : World C) where
  -- the events that a list goes on by
  abbrev more_by : (i : ℕ) (old new : List Mark) (strings : List (List ℕ))
      → ListGoesOn rules c opening i old strings new ⊎ (new ≡ old) → List Mark
  more_by i old new strings (inl on) = on.more
  more_by i old new strings (inr same) = []

  whole : (i : ℕ) (old new : List Mark) (strings : List (List ℕ))
      (on : ListGoesOn rules c opening i old strings new ⊎ (new ≡ old))
      → old ++ more_by i old new strings on ≡ new
  whole i old new strings (inl on) = sym on.is
  whole i old new strings (inr same) = append-nil old ∙ sym same

  -- a node of the run goes on by them
  further : (end : World C) (parts : ℕ → List Mark) (i : ℕ) (new : List Mark)
      (on : ListGoesOn rules c opening i (parts i) end.sent new ⊎ (new ≡ parts i)) (n : Node C)
      → AreParts rules c opening parts end → slice_get end.nodes i ≡ Some n
      → (e : Effect C) × AllHappen rules c n (more_by i (parts i) new end.sent on) e
  further end parts i new (inr same) n run there = (stays n, refl)
  further end parts i new (inl on) n run there =
      let first = on.list.node in
      let split : IsSplit rules c first (parts i) on.more on.effect =
      all-split rules c first (parts i) on.more on.effect
      (subst (λ l. AllHappen rules c first l on.effect) on.is on.list.happen) in
      let made = (runs_are_their_parts rules c opening end parts run).each i first on.list.there in
      let same : split.first ≡ made.0 =
      same-effect rules c first (parts i) split.first made.0 split.happen made.1 in
      let node : split.first.after ≡ n =
      ap (λ (x : Effect C). x.after) same ∙ same_Some made.0.after n (sym made.2 ∙ there) in
      (split.rest, subst (λ x. AllHappen rules c x on.more split.rest) node split.go_on)

  can_further : (end : World C) (parts : ℕ → List Mark) (i : ℕ) (new : List Mark)
      (on : ListGoesOn rules c opening i (parts i) end.sent new ⊎ (new ≡ parts i))
      → length end.nodes ≡ length opening.nodes
      → AllCanBeMade end.sent (length end.nodes) i (more_by i (parts i) new end.sent on)
  can_further end parts i new (inr same) count = tt
  can_further end parts i new (inl on) count =
      subst (λ k. AllCanBeMade end.sent k i on.more) (sym count) on.can

  none_further : (end : World C) (parts : ℕ → List Mark) (i : ℕ) (new : List Mark)
      (on : ListGoesOn rules c opening i (parts i) end.sent new ⊎ (new ≡ parts i))
      → length end.nodes ≡ length opening.nodes → length end.nodes ≤ i
      → more_by i (parts i) new end.sent on ≡ []
  none_further end parts i new (inr same) count past = refl
  none_further end parts i new (inl on) count past =
      absurd (let inside = slice_get_within opening.nodes i on.list.node on.list.there in
      omega (arith, inside, past, count))

  pub lists_go_on : ListsGoOn rules c opening
  lists_go_on end parts lists run on =
      let more : ℕ → List Mark = (λ i. more_by i (parts i) (lists i) end.sent (on i)) in
      let count : length end.nodes ≡ length opening.nodes =
      (runs_are_their_parts rules c opening end parts run).nodes in
      let goes : GoOn rules c end more = record {
        each = λ i n there. further end parts i (lists i) (on i) n run there;
        can = λ i. can_further end parts i (lists i) (on i) count;
        none = λ i past. none_further end parts i (lists i) (on i) count past;
      } in
      let went = parts_go_on rules c opening end parts more run goes in
      let are : (λ i. parts i ++ more i) ≡ lists =
      (λ k i. whole i (parts i) (lists i) end.sent (on i) k) in
      let now : AreParts rules c opening lists went.0 =
      subst (λ l. AreParts rules c opening l went.0) are went.1.run in (
        went.0,
        record {
          run = now;
          before = went.1.before;
          sent = λ i bytes s. part_sent rules c opening went.0 lists i s.list.node s.effect bytes
              now s.list.there s.list.happen s.sent;
        },
      )
