-- A row that sends a request on under steady hints: its node is late then, and was not before.
use Rattle.std.proofs.Common.{◌≡◌, ◌≢◌, ◌⊎◌, ◌<◌, ℕ, Bool, true, List, [], slice_get, refl, sym, ap, ◌∙◌, subst, inl, inr}
use Rattle.ivy_model.specs.declared.Config.{Config}
use Rattle.ivy_model.specs.stated.Config.{IsConfig}
use Rattle.ivy_wire.specs.declared.Content.TheVariants as content
use Rattle.ivy_wire.specs.stated.Data.{Content}
use Rattle.ivy_pagetable.specs.declared.Entry.TheVariants as entry
use Rattle.ivy_coherence.specs.stated.MessageSteps.{sending}
use Rattle.ivy_dynamic.specs.stated.Dynamic.{Hints, dynamic_ops}
use Rattle.proof_table.specs.stated.Letters.{Letter, Net, Place, Underway, Aside, Loose, IsAt}
use Rattle.proof_table.specs.stated.Orderly.{IsExpectedAs}
use Rattle.proof_table.specs.transitions.TableSteps.{Notice, Silent, Asked, Forwarded, Given, Replied, Invalidated, Row, IsNamedBy, noticed, letter}
use Rattle.proof_table.specs.routing.Hinting.{LeadDown}
use Rattle.proof_table.proofs.transitions.Sole.{fits_as}
use Rattle.proof_table.proofs.routing.Remaining.{IsThere, IsCounted, letter_there}
use Rattle.proof_answers.specs.late.Late.{IsRequest, IsOut, IsPutOff, IsChained, first, next, IsLate}
use Rattle.proof_answers.specs.late.LateLaws.{IsBefore}
use Rattle.proof_answers.proofs.late.LateFacts.{one_at}
use Rattle.proof_answers.proofs.steady.Chains.{one_request}
use Rattle.proof_answers.proofs.steady.NoneLate.{none_late}
use Rattle.proof_answers.proofs.steady.SteadyWorlds.{laws, IsBase, before_of, base-kept}

-- a request that node x served is on its way to the next hop, which is another node
record IsPassed (nodes : ℕ) (n n' : Net) (page asker x hop : ℕ) : Type 0 where
  old : Letter
  was : IsAt n (Loose 0) old
  asked : IsRequest page asker old
  here : old.dest ≡ x
  at : Place
  letter : Letter
  there : IsAt n' at letter
  asks : IsRequest page asker letter
  dest : letter.dest ≡ hop
  out : IsPutOff at → ⊥
  below : hop < nodes
  away : hop ≢ x

-- it is not put off: a letter that is so was sent by its origin, as far as letters say
not_put : (n' : Net) (a : Place) (x hop o call : ℕ) (body : Content)
    → IsAt n' a (letter x hop o call body) → o ≢ x → IsPutOff a → ⊥
not_put n' (Underway i j k) x hop o call body there foreign put = put
not_put n' (Loose k) x hop o call body there foreign put = put
not_put n' (Aside i q k) x hop o call body there foreign put =
    foreign
    (ap (λ (v : Letter). v.message.origin) there.2 ∙ sym (ap (λ (v : Letter). v.source) there.2))

passed : (nodes : ℕ) (n n' : Net) (p from x hop o call : ℕ) (body : Content)
    → IsAt n (Loose 0) (letter from x o call body) → IsThere n' (letter x hop o call body)
    → (body ≡ content.ReadReq p) ⊎ (body ≡ content.WriteReq p) → o ≢ x → hop < nodes → hop ≢ x
    → IsPassed nodes n n' p o x hop
passed nodes n n' p from x hop o call body was there asks foreign below away = record {
  old = letter from x o call body;
  was = was;
  asked = (refl, asks);
  here = refl;
  at = there.0;
  letter = letter x hop o call body;
  there = there.1;
  asks = (refl, asks);
  dest = refl;
  out = not_put n' there.0 x hop o call body there.1 foreign;
  below = below;
  away = away;
}

abbrev Passes : ℕ → Net → Net → Notice → Type 0
Passes nodes n n' Silent = Unit {0}
Passes nodes n n' (Asked x p hop) = Unit {0}
Passes nodes n n' (Forwarded x p write origin hop) = IsPassed nodes n n' p origin x hop
Passes nodes n n' (Given x p to) = Unit {0}
Passes nodes n n' (Replied x p write from) = Unit {0}
Passes nodes n n' (Invalidated x p by) = Unit {0}

module _ (c : Config) where
  passed_by : {n : Net} {f : ℕ → List ℕ} {notice : Notice} {n' : Net} {f' : ℕ → List ℕ}
      → Row true c n f notice n' f' → IsCounted n → Passes c.nodes n n' notice
  passed_by {n = n} (Row.sends_on_read r hop plain away) counted =
      passed c.nodes n _ r.page r.from r.node hop r.origin r.call (content.ReadReq r.page)
      (ap (λ v. slice_get v 0) r.loose)
      (letter_there n r.node r.page (entry.Idle r.state) r.rest hop r.origin r.call
      (content.ReadReq r.page) counted) (inl refl) r.foreign away.below away.away
  passed_by {n = n} (Row.sends_on_write r hop plain away) counted =
      passed c.nodes n _ r.page r.from r.node hop r.origin r.call (content.WriteReq r.page)
      (ap (λ v. slice_get v 0) r.loose)
      (letter_there n r.node r.page (entry.Idle r.state) r.rest hop r.origin r.call
      (content.WriteReq r.page) counted) (inr refl) r.foreign away.below away.away
  passed_by {n = n} (Row.reader_sends_on_read r hop sends away) counted =
      passed c.nodes n _ r.page r.from r.node hop r.origin r.call (content.ReadReq r.page)
      (ap (λ v. slice_get v 0) r.loose)
      (letter_there n r.node r.page (entry.AwaitRead (sending r.state)) r.rest hop r.origin r.call
      (content.ReadReq r.page) counted) (inl refl) r.foreign away.below away.away
  passed_by {n = n} (Row.reader_sends_on_write r hop sends away) counted =
      passed c.nodes n _ r.page r.from r.node hop r.origin r.call (content.WriteReq r.page)
      (ap (λ v. slice_get v 0) r.loose)
      (letter_there n r.node r.page (entry.AwaitRead (sending r.state)) r.rest hop r.origin r.call
      (content.WriteReq r.page) counted) (inr refl) r.foreign away.below away.away
  passed_by (Row.carries r) counted = tt
  passed_by (Row.takes r) counted = tt
  passed_by (Row.drops r) counted = tt
  passed_by (Row.shares r owner low) counted = tt
  passed_by (Row.gives r owner low) counted = tt
  passed_by (Row.ends_copy r sender plain) counted = tt
  passed_by (Row.gives_up r sender) counted = tt
  passed_by (Row.puts_off r kept) counted = tt
  passed_by (Row.copy_comes bytes r same quiet) counted = tt
  passed_by (Row.copy_comes_late bytes r same sent) counted = tt
  passed_by (Row.page_comes copies bytes r same none) counted = tt
  passed_by (Row.page_comes_shared copies bytes r same some out low) counted = tt
  passed_by (Row.acknowledges r same left more) counted = tt
  passed_by (Row.acknowledges_last r same left last) counted = tt
  passed_by (Row.asks_copy r hop plain unread away) counted = tt
  passed_by (Row.asks_page r hop plain away) counted = tt
  passed_by (Row.ends_copies r owner reader unwritten low out) counted = tt
  passed_by (Row.joins r) counted = tt

module _ (c : Config) (limits : IsConfig c) (page asker : ℕ) where
  abbrev pub known : (m : ℕ → Hints) (n : Net) → IsBase c limits m n (λ p. []) → IsBefore c m n
  known m n b = before_of c limits m n (λ p. []) b

  -- the request is about one of the pages
  pub about : (m : ℕ → Hints) (n : Net) → IsBefore c m n → IsOut n page asker → page < c.pages
  about m n b out = elim out.asks.1 [
    | inl is ↦
        (let f : IsExpectedAs c n out.letter (content.ReadReq page) =
        fits_as c n b.order out.at out.letter (content.ReadReq page) out.there is in f.0.inside)
    | inr is ↦
        (let f : IsExpectedAs c n out.letter (content.WriteReq page) =
        fits_as c n b.order out.at out.letter (content.WriteReq page) out.there is in f.0.inside)
  ]

  -- none of its chain is at a late node
  pub not_late : (m : ℕ → Hints) (n : Net) → IsBefore c m n → IsOut n page asker → (a : Place)
      (l : Letter) → IsChained n page asker a l → IsLate c.nodes m n page asker l.dest → ⊥
  not_late m n b out =
      let h = b.hinted.heights page (about m n b out) in
      none_late c m n b.order b.steady.orders page asker h.0 h.1

  module _ {m : ℕ → Hints} {n : Net} {f : ℕ → List ℕ} {n' : Net} {f' : ℕ → List ℕ} (x : ℕ)
      (write : Bool) (hop : ℕ) (row : Row true c n f (Forwarded x page write asker hop) n' f')
      (of : IsNamedBy dynamic_ops c m (Forwarded x page write asker hop))
      (base : IsBase c limits m n (λ p. [])) (was_out : IsOut n page asker)
      (out : IsOut n' page asker) where
    abbrev next_m : ℕ → Hints
    next_m = noticed dynamic_ops m (Forwarded x page write asker hop)

    before : IsBefore c m n
    before = known m n base

    base_next : IsBefore c next_m n'
    base_next = known next_m n' ((base-kept c limits).by row of base)

    pass : IsPassed c.nodes n n' page asker x hop
    pass = passed_by c row before.counted

    abbrev was : IsChained n page asker (Loose 0) pass.old
    was = first (Loose 0) pass.old pass.was pass.asked

    down : (height : ℕ → ℕ) × LeadDown c next_m n' page height
    down = base_next.hinted.heights page (about next_m n' base_next out)

    -- the chain is this request alone
    alone : {a : Place} {l : Letter} → IsChained n' page asker a l → l.dest ≡ hop
    alone (first a l at wants) =
        ap (λ (v : Letter). v.dest)
        (one_at n' pass.at l pass.letter
        (subst (λ v. IsAt n' v l)
        (one_request c n' base_next.order page asker down.0 down.1.requests a pass.at l pass.letter
        asker at wants pass.there pass.asks) at) pass.there) ∙ pass.dest
    alone (next b a k l before put at wants) = absurd (pass_put before put)
      where
        pass_put : {b : Place} {k : Letter} → IsChained n' page asker b k → IsPutOff b → ⊥
        pass_put (first b k at wants) put =
            pass.out
            (subst IsPutOff
            (one_request c n' base_next.order page asker down.0 down.1.requests b pass.at k
            pass.letter asker at wants pass.there pass.asks) put)
        pass_put (next d b j k before put at wants) put_too = pass_put before put

    pub sender_late : IsLate c.nodes next_m n' page asker x
    sender_late =
        elim ((laws c limits).chain_by row of before page asker (Loose 0) pass.old out was) [
          | inr is ↦ subst (IsLate c.nodes next_m n' page asker) pass.here is.1
          | inl k ↦
              absurd (pass.away (sym (alone k.chained) ∙ k.dest ∙ pass.here))
        ]

    pub sender_new : IsLate c.nodes m n page asker x → ⊥
    sender_new is =
        not_late m n before was_out (Loose 0) pass.old was
        (subst (IsLate c.nodes m n page asker) (sym pass.here) is)
