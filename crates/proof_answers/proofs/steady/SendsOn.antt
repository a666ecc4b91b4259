-- Through the rows of one step under steady hints: a request is out still, and who sent it on was
-- not late before, and is late then; or it was answered.
use Rattle.std.proofs.Common.{◌≡◌, ◌≢◌, ◌⊎◌, ◌<◌, ◌≤◌, ℕ, Bool, true, List, [], length, slice_get, Some, sym, ap, ◌∙◌, subst, inl, inr, arith}
use Rattle.std.proofs.lemmas.Option.{same_Some, slice_get_cases}
use Rattle.ivy_model.specs.declared.Config.{Config}
use Rattle.ivy_model.specs.stated.Config.{IsConfig}
use Rattle.ivy_wire.specs.declared.Content.TheVariants as content
use Rattle.ivy_wire.specs.stated.Data.{Content, Message}
use Rattle.ivy_dynamic.specs.stated.Dynamic.{Hints, dynamic_ops}
use Rattle.ivy_host.specs.stated.Managers.{Dynamic, managed_ops}
use Rattle.proof_table.specs.stated.Letters.{Letter, Net, Place, Underway, Aside, Loose, IsAt}
use Rattle.proof_table.specs.stated.Orderly.{Own, key_of, key_as, IsExpectedAs, IsOrderly}
use Rattle.proof_table.specs.transitions.TableSteps.{Notice, Forwarded, Row, Claim, IsNamedBy, IsPreservedBy, noticed}
use Rattle.proof_table.proofs.transitions.Both.{both-kept}
use Rattle.proof_table.proofs.transitions.Embedded.{embedded-kept}
use Rattle.proof_table.proofs.transitions.Sole.{fits_as}
use Rattle.proof_table.proofs.waiting.Onward.{IsAnswered, IsPromised, IsWithin, IsOnward}
use Rattle.proof_table.proofs.waiting.OnwardRows.{onward_at}
use Rattle.proof_table.proofs.waiting.Restarts.{IsPut}
use Rattle.proof_answers.specs.late.Late.{IsOut, IsLate}
use Rattle.proof_answers.proofs.late.LateFacts.{one_at, request_key}
use Rattle.proof_answers.proofs.fairness.WaitRanks.{OfKind}
use Rattle.proof_answers.specs.steady.SendsOn.{AsksFor}
use Rattle.proof_answers.proofs.steady.SendingRows.{IsPosting, put_is, posting_by}
use Rattle.proof_answers.proofs.steady.Senders.{known, sender_late, sender_new}
use Rattle.proof_answers.proofs.steady.SteadyWorlds.{hints_within, laws, IsBase, base-kept, routed}

-- what answers a request for the page
abbrev pub IsReply : ℕ → Content → Type 0
IsReply page body =
    ((bytes : List ℕ) × (body ≡ content.ReadRep page bytes))
    ⊎ ((bits : ℕ) × (bytes : List ℕ) × (body ≡ content.WriteRep page bits bytes))

pub reply_key : (page asker : ℕ) (l : Letter) → l.message.origin ≡ asker
    → IsReply page l.message.content → key_of l ≡ Own asker page
reply_key page asker l origin (inl is) = ap (key_as l) is.1 ∙ ap (λ v. Own v page) origin
reply_key page asker l origin (inr is) = ap (key_as l) is.2 ∙ ap (λ v. Own v page) origin

reply_unput : (page : ℕ) (body : Content) → IsReply page body → IsPut body → ⊥
reply_unput page body (inl is) put = subst IsPut is.1 put
reply_unput page body (inr is) put = subst IsPut is.2 put

-- a reply asks for nothing
pub reply_asks : (page : ℕ) (body : Content) → IsReply page body
    → (body ≡ content.ReadReq page) ⊎ (body ≡ content.WriteReq page) → ⊥
reply_asks page body (inl is) (inl asks) = (
    let e : content.ReadRep page is.0 ≡ content.ReadReq page = sym is.1 ∙ asks in
    cc
    )
reply_asks page body (inl is) (inr asks) = (
    let e : content.ReadRep page is.0 ≡ content.WriteReq page = sym is.1 ∙ asks in
    cc
    )
reply_asks page body (inr is) (inl asks) = (
    let e : content.WriteRep page is.0 is.1 ≡ content.ReadReq page = sym is.2 ∙ asks in
    cc
    )
reply_asks page body (inr is) (inr asks) = (
    let e : content.WriteRep page is.0 is.1 ≡ content.WriteReq page = sym is.2 ∙ asks in
    cc
    )

reply_to : (c : Config) (n : Net) → IsOrderly c n → (page : ℕ) (a : Place) (l : Letter)
    → IsAt n a l → IsReply page l.message.content → l.dest ≡ l.message.origin
reply_to c n order page a l there (inl is) = (
    let f : IsExpectedAs c n l (content.ReadRep page is.0) =
    fits_as c n order a l (content.ReadRep page is.0) there is.1 in
    f.1
    )
reply_to c n order page a l there (inr is) = (
    let f : IsExpectedAs c n l (content.WriteRep page is.0 is.1) =
    fits_as c n order a l (content.WriteRep page is.0 is.1) there is.2 in
    f.1
    )

-- Rows within one step, in which no more than `due` is delivered, from this net and these hints.
module _ (c : Config) (limits : IsConfig c) (page asker : ℕ) (due : ℕ → ℕ → ℕ) (m0 : ℕ → Hints)
    (start : Net) where
  -- a node that sent the request on was not late and is late now
  abbrev pub IsSender : (ℕ → Hints) → Net → ℕ → Type 0
  IsSender m n x =
      (IsLate c.nodes m0 start page asker x → ⊥) × IsLate c.nodes m n page asker x × (x < c.nodes)

  -- The request is out still, who was late is so still, and so is who sent it on in this step.
  pub record IsTracked (m : ℕ → Hints) (n : Net) : Type 0 where
    pub out : IsOut n page asker
    pub late : (y : ℕ) → IsLate c.nodes m0 start page asker y → IsLate c.nodes m n page asker y
    pub sent : (x y k : ℕ) (message : Message) → length (start.posted x y) ≤ k
        → slice_get (n.posted x y) k ≡ Some message → AsksFor page asker message → x ≢ asker
        → IsSender m n x

  -- or it was answered in this step
  pub record IsReplied (n : Net) : Type 0 where
    pub from : ℕ
    pub number : ℕ
    pub message : Message
    pub new : due from asker ≤ number
    pub there : slice_get (n.posted from asker) number ≡ Some message
    pub origin : message.origin ≡ asker
    pub reply : IsReply page message.content

  abbrev pub Tracks : (ℕ → Hints) → Net → Type 0
  Tracks m n = IsPromised due n × (IsWithin due n → IsTracked m n ⊎ IsReplied n)

  module _ {m : ℕ → Hints} {n : Net} {f : ℕ → List ℕ} {notice : Notice} {n' : Net} {f' : ℕ → List ℕ}
      (row : Row true c n f notice n' f') (of : IsNamedBy dynamic_ops c m notice)
      (b : IsBase c limits m n (λ p. []))
      (b' : IsBase c limits (noticed dynamic_ops m notice) n' (λ p. [])) where
    abbrev m' : ℕ → Hints
    m' = noticed dynamic_ops m notice

    on : IsOnward c (λ y p. ⊥) n n'
    on = onward_at c limits row b.0.0.0.0 ((routed c limits).descends m n b.0.0.0.0 b.0.0.0.1)
        b.0.0.1.counted (λ r bits bytes a l at to asks ne still. ne)

    post : IsPosting n n' notice
    post = posting_by c row

    -- what was posted there is there still
    was_there : (i j k : ℕ) (old now : Message) → slice_get (n.posted i j) k ≡ Some old
        → slice_get (n'.posted i j) k ≡ Some now → slice_get (n.posted i j) k ≡ Some now
    was_there i j k old now was is =
        was ∙ ap Some (same_Some old now (sym (post.stays i j k old was) ∙ is))

    module _ (promised : IsPromised due n) (t : IsTracked m n) where
      -- no reply was there
      old_none : (a : Place) (l : Letter) → IsAt n a l → l.message.origin ≡ asker
          → IsReply page l.message.content → ⊥
      old_none a l there origin reply =
          reply_asks page l.message.content reply
          (subst (λ (v : Letter). (v.message.content ≡ content.ReadReq page)
          ⊎ (v.message.content ≡ content.WriteReq page)) (sym letters) t.out.asks.1)
        where
          letters : l ≡ t.out.letter
          letters =
              one_at n t.out.at l t.out.letter
              (subst (λ v. IsAt n v l)
              (b.0.0.0.0.one_letter a t.out.at l t.out.letter there t.out.there
              (reply_key page asker l origin reply
              ∙ sym (request_key page asker t.out.letter t.out.asks))) there) t.out.there

      -- so one that is there then is new
      replied : (a : Place) (l : Letter) → IsAt n' a l → l.dest ≡ asker
          → l.message.origin ≡ asker → IsReply page l.message.content → IsReplied n'
      replied (Underway i j k) l at to origin reply =
          elim (slice_get_cases (n.posted i j) k).1 [
            | inl was ↦ absurd (
                let more = (on.grows i j).1 in
                let low = at.0 in
                old_none (Underway i j k) l (
                  omega (arith, more, low),
                  was_there i j k was.0 l.message was.2 at.1,
                  at.2,
                  at.3,
                ) origin reply
                )
            | inr past ↦ (
                let here : j ≡ asker = sym at.3 ∙ to in
                let long = past.0 in
                let most = promised i j in
                record {
                  from = i;
                  number = k;
                  message = l.message;
                  new = subst (λ v. due i v ≤ k) here (omega (arith, long, most));
                  there = subst (λ v. slice_get (n'.posted i v) k ≡ Some l.message) here at.1;
                  origin = origin;
                  reply = reply;
                }
                )
          ]
      replied (Aside i q k) l at to origin reply =
          absurd (reply_unput page l.message.content reply
          (subst (λ (v : Letter). IsPut v.message.content) (sym at.2) (put_is at.0.kind q)))
      replied (Loose k) l at to origin reply = elim (post.loose k l at) [
        | inl was ↦ absurd (old_none was.0 l was.1 origin reply)
        | inr put ↦ absurd (reply_unput page l.message.content reply put)
      ]

      reply_is : (a : Place) (l : Letter) → IsAt n' a l → l.dest ≡ asker
          → IsReply page l.message.content → IsReplied n'
      reply_is a l at to reply =
          replied a l at to (sym (reply_to c n' b'.0.0.0.0 page a l at reply) ∙ to) reply

      by_read : IsAnswered n n' t.out.letter (content.ReadReq page)
          → IsOut n' page asker ⊎ IsReplied n'
      by_read (inl k) =
          inr (reply_is k.at k.letter k.there (k.dest ∙ t.out.asks.0) (inl (k.bytes, k.brings)))
      by_read (inr k) = inl (record {
        at = k.asked.at;
        letter = k.asked.letter;
        there = k.asked.there;
        asks = (k.asked.asker ∙ t.out.asks.0, inl k.asked.asks);
      })

      by_write : IsAnswered n n' t.out.letter (content.WriteReq page)
          → IsOut n' page asker ⊎ IsReplied n'
      by_write (inl k) =
          inr (reply_is k.at k.letter k.there (k.dest ∙ t.out.asks.0)
          (inr (k.bits, k.bytes, k.brings)))
      by_write (inr k) = inl (record {
        at = k.asked.at;
        letter = k.asked.letter;
        there = k.asked.there;
        asks = (k.asked.asker ∙ t.out.asks.0, inr k.asked.asks);
      })

      fate : IsOut n' page asker ⊎ IsReplied n'
      fate = elim (on.stays t.out.at t.out.letter t.out.there) [
        | inl k ↦ inl (record {
          at = k.at;
          letter = k.letter;
          there = k.there;
          asks = subst (λ (v : Message). (v.origin ≡ asker)
              × ((v.content ≡ content.ReadReq page) ⊎ (v.content ≡ content.WriteReq page)))
              (sym k.says) t.out.asks;
        })
        | inr h ↦ elim t.out.asks.1 [
          | inl is ↦ by_read (subst (IsAnswered n n' t.out.letter) is h)
          | inr is ↦ by_write (subst (IsAnswered n n' t.out.letter) is h)
        ]
      ]

      module _ (out : IsOut n' page asker) where
        late_on : (y : ℕ) → IsLate c.nodes m n page asker y → IsLate c.nodes m' n' page asker y
        late_on y h =
            (laws c limits).late_by row of (known c limits page asker m n b) page asker y t.out out
            h

        -- by a row that sends it on
        abbrev Sends : ℕ → Notice → Type 0
        Sends x v =
            Row true c n f v n' f' → IsNamedBy dynamic_ops c m v
            → (IsLate c.nodes m0 start page asker x → ⊥)
            × IsLate c.nodes (noticed dynamic_ops m v) n' page asker x × (x < c.nodes)

        sends_it : (x : ℕ) (write : Bool) (hop : ℕ)
            → notice ≡ Forwarded x page write asker hop → IsSender m' n' x
        sends_it x write hop is =
            subst (Sends x) (sym is)
            (λ r o. (
              λ h. sender_new c limits page asker x write hop r o b t.out out (t.late x h),
              sender_late c limits page asker x write hop r o b t.out out,
              o.0,
            )) row of

        sent_on : (x y k : ℕ) (message : Message) → length (start.posted x y) ≤ k
            → slice_get (n'.posted x y) k ≡ Some message → AsksFor page asker message
            → x ≢ asker → IsSender m' n' x
        sent_on x y k message new there asks other = elim (slice_get_cases (n.posted x y) k).1 [
          | inl was ↦ (
              let s = t.sent x y k message new (was_there x y k was.0 message was.2 there) asks
              other in
              (s.0, late_on x s.1, s.2)
              )
          | inr past ↦ elim (post.news x y k message page asker past.0 there asks) [
            | inl own ↦ absurd (other own)
            | inr by ↦ sends_it x by.0 by.1 by.2
          ]
        ]

        tracked : IsTracked m' n'
        tracked = record { out = out; late = λ y h. late_on y (t.late y h); sent = sent_on }

    tracks_on : Tracks m n → Tracks m' n'
    tracks_on g = (
      λ x y. (let a = (on.grows x y).0 in let low = g.0 x y in omega (arith, a, low)),
      λ within. elim (g.1 (λ x y.
          (let a = (on.grows x y).1 in let low = within x y in omega (arith, a, low)))) [
            | inl t ↦ elim (fate g.0 t) [
              | inl out ↦ inl (tracked g.0 t out)
              | inr r ↦ inr r
            ]
            | inr r ↦ inr (record {
              from = r.from;
              number = r.number;
              message = r.message;
              new = r.new;
              there = post.stays r.from asker r.number r.message r.there;
              origin = r.origin;
              reply = r.reply;
            })
          ],
    )

  abbrev pub Claimed : Claim Hints
  Claimed m n f = IsBase c limits m n f × Tracks m n

  tracked-kept : IsPreservedBy true dynamic_ops c Claimed
  tracked-kept = both-kept (base-kept c limits) (record {
    by = λ {m} {n} {f} {notice} {n'} {f'} row of before after g. tracks_on row of before after g;
  })

  pub wide-kept : IsPreservedBy true managed_ops c (OfKind Dynamic c Claimed)
  wide-kept =
      embedded-kept Dynamic hints_within c Claimed (OfKind Dynamic c Claimed) (λ m n f k. k)
      (λ s m n f kind k. (s, kind, k)) tracked-kept
