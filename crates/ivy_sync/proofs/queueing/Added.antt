-- What a send and a take add.
use Rattle.std.proofs.Common.{◌≡◌, ℕ, ◌+◌, ◌-◌, List, [], ◌∷◌, ◌++◌, ap, subst, ◌∙◌, append_assoc}
use Rattle.ivy_calls.specs.declared.answer.Answer.{Answer}
use Rattle.ivy_sync.specs.declared.queue.Queue.{Queue}
use Rattle.ivy_sync.specs.Doing.{arrives, loads, passes, stores}
use Rattle.ivy_sync.specs.queueing.Queues.{AddsSend, AddsTake, slot}

three_added : (a b c : Answer) (old mid later new : List Answer) → mid ≡ old ++ a ∷ []
    → later ≡ mid ++ b ∷ [] → new ≡ later ++ c ∷ [] → new ≡ old ++ (a ∷ b ∷ c ∷ [])
three_added a b c old mid later new first second third =
    third
    ∙ ap (λ (l : List Answer). l ++ c ∷ []) (second ∙ ap (λ (l : List Answer). l ++ b ∷ []) first)
    ∙ append_assoc (old ++ a ∷ []) (b ∷ []) (c ∷ []) ∙ append_assoc old (a ∷ []) (b ∷ c ∷ [])

pub takes_so : (q : Queue) (n least place value found : ℕ) (old mid later new : List Answer)
    → least ≡ n + 1 → place ≡ slot q n → mid ≡ old ++ passes q.sent least found ∷ []
    → later ≡ mid ++ loads place value ∷ [] → new ≡ later ++ arrives q.taken ∷ []
    → AddsTake q n value old new
takes_so q n least place value found old mid later new is there passed loaded told =
    record {
      found = found;
      whole =
          three_added (passes q.sent (n + 1) found) (loads (slot q n) value) (arrives q.taken)
          old mid later new (subst (λ m. mid ≡ old ++ passes q.sent m found ∷ []) is passed)
          (subst (λ a. later ≡ mid ++ loads a value ∷ []) there loaded) told;
    }

pub sends_so : (q : Queue) (n least place value found : ℕ) (old mid later new : List Answer)
    → least ≡ n + 1 - q.size → place ≡ slot q n → mid ≡ old ++ passes q.taken least found ∷ []
    → later ≡ mid ++ stores place value ∷ [] → new ≡ later ++ arrives q.sent ∷ []
    → AddsSend q n value old new
sends_so q n least place value found old mid later new is there passed stored told =
    record {
      found = found;
      whole =
          three_added (passes q.taken (n + 1 - q.size) found) (stores (slot q n) value)
          (arrives q.sent) old mid later new
          (subst (λ m. mid ≡ old ++ passes q.taken m found ∷ []) is passed)
          (subst (λ a. later ≡ mid ++ stores a value ∷ []) there stored) told;
    }
