use Rattle.std.proofs.Common.{◌≡◌, ◌≤◌, [], length, map, drop}
use Rattle.ivy_wire.specs.Lent.{owned_parcel}
use Rattle.ivy_coherence.specs.stated.Serving.{serving, all_served}
use Rattle.ivy_coherence.proofs.serving.serve_all.Given as goal

-- what is left to serve, from here, gives what all messages give from the beginning
abbrev pub invariant-loop-message : goal.invariant-loop-message
invariant-loop-message g l =
    let ops = g.M.Manager.ops in
    record {
      room : length l.out.items ≤ l.message-index;
      after : all_served ops l.at.me l.at.page l.at.bytes.now
          (serving l.idle l.manager l.breaches (map owned_parcel l.out.items))
          (drop l.message-index l.messages)
          ≡ all_served ops l.at.me l.at.page l.at.bytes.now
          (serving l.initial.idle l.initial.manager l.initial.breaches []) l.messages;
    }
