-- A word carried out on a page of the flat memory is one call of it: the page has the bytes after
-- the word then, the others stay as they are, and the word gives the call's reply.
use Rattle.std.proofs.Common.{◌≡◌, ℕ, ◌+◌, ◌-◌, ◌*◌, ◌/◌, ◌%◌, ◌^◌, ◌≤◌, Bool, true}
use Rattle.std.proofs.Common.{false, nat_le, List, Option, Some, None, MatchOption, MatchBool, refl}
use Rattle.std.proofs.Common.{sym, ap, subst, if◌then◌else◌, ◌==◌, slice_get, slice_set}
use Rattle.std.proofs.lemmas.Bool.{ne_eqb, leb-true}
use Rattle.std.proofs.lemmas.Option.{slice_get_within}
use Rattle.ivy_model.specs.declared.Config.{Config}
use Rattle.ivy_model.specs.declared.Call.{Call}
use Rattle.ivy_model.specs.declared.Call.TheVariants as call
use Rattle.ivy_model.specs.declared.Act.{Act}
use Rattle.ivy_model.specs.declared.CallKind.TheVariants as kind
use Rattle.ivy_model.specs.declared.Reply.{Reply}
use Rattle.ivy_model.specs.declared.Reply.TheVariants as reply
use Rattle.ivy_model.specs.stated.Accesses.{access_reply, gives_number, kind_of_call, next_number}
use Rattle.ivy_model.specs.stated.Config.{IsConfig}
use Rattle.ivy_model.specs.Memory.{IsSized, flat_page}
use Rattle.ivy_model.specs.stated.Memory as model
use Rattle.ivy_model.specs.stated.Numbers.{fault_number}
use Rattle.ivy_model.specs.declared.fault.Fault.TheVariants.{NoSuchCount, CountFull}
use Rattle.ivy_model.specs.stated.Serves.{Serves, ServesKind, Accesses, Refuses, Advances, access_refusal}
use Rattle.ivy_model.specs.stated.Serves.{with_written}
use Rattle.ivy_model.specs.stated.Legal.{IsWidth}
use Rattle.ivy_model.proofs.Counts.{read_count, write_count}
use Rattle.ivy_model.proofs.Sizes.{access_placed}
use Rattle.ivy_model.proofs.PageWords.{IsPlaced, read_by_page, with_word, write_by_page, write_elsewhere}
use Rattle.ivy_pagetable.specs.declared.Out.{Out}
use Rattle.ivy_pagetable.specs.declared.Out.TheVariants as out
use Rattle.ivy_pagetable.specs.declared.Word.TheVariants as word
use Rattle.ivy_pagetable.specs.stated.Words.{number_at, access_outcome, advanced, awaited, carried, carried_out, word_with}
use Rattle.ivy_pagetable.proofs.Words.{carried-word_with}
use Rattle.ivy_memory.specs.stated.Memories.{reply_of}
use Rattle.ivy_memory.specs.Flat.{Answers, IsServed}

given_as : (b : Bool) (n : ℕ)
    → reply_of (if b then out.Value n else out.Done)
    ≡ Some (if b then reply.Value n else reply.Done)
given_as true n = refl
given_as false n = refl

module _ (c : Config) (old : model.Memory) where
  -- what the memory answers and stays as it is
  unchanged : (called : Call) (page : ℕ) (given : Out) → Answers c old called (reply_of given) old
      → IsServed c old called page (record { out = given; bytes = flat_page c old page })
  unchanged called page given answers =
      record {
        new = old;
        answers = answers;
        here = refl;
        others = λ q inside ne. refl;
        blocks = refl;
      }

  module _ (config : IsConfig c) (width addr : ℕ) (legal : IsWidth width)
      (permitted : access_refusal c width addr ≡ None) where
    placed : IsPlaced c width addr
    placed = access_placed c width addr config legal permitted

    module _ (sized : IsSized c old) (a : Act) (called : Call)
        (is : kind_of_call called ≡ kind.Word width addr a) where
      abbrev page : List ℕ
      page = flat_page c old (addr / c.page_size)

      abbrev here : ℕ
      here = number_at width (addr % c.page_size) page

      -- what the memory answers, from the number in the page
      access_answers : (new : model.Memory)
          → new ≡ with_written c old width addr (next_number width a here)
          → Answers c old called (reply_of (access_outcome width a here).out) new
      access_answers new next =
          subst (λ o. Answers c old called o new) (sym (given_as (gives_number a) here))
          (subst (λ k. ServesKind c old k (access_reply a here) new) (sym is)
          (subst (λ o. MatchOption o (Accesses c old width addr a (access_reply a here) new)
          (λ code. Refuses old code (access_reply a here) new)) (sym permitted)
          (subst (λ (n : ℕ). (access_reply a here ≡ access_reply a n)
          × (new ≡ with_written c old width addr (next_number width a n)))
          (sym (read_by_page c old width addr placed)) (refl, next))))

      access_by : (next : Option ℕ) → next ≡ next_number width a here
          → IsServed c old called (addr / c.page_size)
          (carried width (addr % c.page_size)
          (record { out = (access_outcome width a here).out; next = next }) page)
      access_by None stays =
          unchanged called (addr / c.page_size) (access_outcome width a here).out
          (access_answers old (ap (with_written c old width addr) stays))
      access_by (Some value) puts =
          record {
            new = with_word c old width addr value;
            answers =
                access_answers (with_word c old width addr value)
                (ap (with_written c old width addr) puts);
            here = write_by_page c old width addr value sized.bytes placed;
            others =
                λ q inside ne. write_elsewhere c old width addr value q sized.bytes placed inside
                ne;
            blocks = refl;
          }

      pub access_served : IsServed c old called (addr / c.page_size)
          (carried_out (word_with width (addr % c.page_size) a) page)
      access_served =
          subst (IsServed c old called (addr / c.page_size))
          (sym (carried-word_with width (addr % c.page_size) a page))
          (access_by (next_number width a here) refl)

  module _ (width addr code : ℕ) (refusal : access_refusal c width addr ≡ Some code) where
    -- the memory refuses the access, whatever it would do otherwise
    pub access_refused : (P : Type 0) → MatchOption (access_refusal c width addr) P
        (λ n. Refuses old n (reply.Refused code) old)
    access_refused P =
        subst (λ o. MatchOption o P (λ n. Refuses old n (reply.Refused code) old)) (sym refusal)
        (refl, refl)

  -- a count is a word of page 0
  module _ (sized : IsSized c old) (k n : ℕ) (there : slice_get old.counts k ≡ Some n) where
    abbrev words : List ℕ
    words = flat_page c old 0

    count_read : number_at 8 (8 * k) words ≡ n
    count_read = read_count old.counts k n there (sized.words k n there)

    pub count_served : IsServed c old (call.Count k) 0 (carried_out (word.Count (8 * k)) words)
    count_served =
        let value : ℕ = number_at 8 (8 * k) words in
        unchanged (call.Count k) 0 (out.Value value)
        (subst (λ o. MatchOption o (Refuses old (fault_number NoSuchCount) (reply.Value value) old)
        (λ m. (reply.Value value ≡ reply.Value m) × (old ≡ old))) (sym there)
        (ap reply.Value count_read, refl))

    abbrev counted : model.Memory
    counted =
        record { bytes = old.bytes; counts = slice_set old.counts k (n + 1); blocks = old.blocks }

    advances : (r : Reply) (new : model.Memory) (b : Bool) → (n == 2 ^ 64 - 1) ≡ b
        → MatchBool b (Refuses old (fault_number CountFull) r new)
        ((r ≡ reply.Done) × (new ≡ counted)) → Serves c old (call.Advance k) r new
    advances r new b test did =
        subst (λ o. MatchOption o (Refuses old (fault_number NoSuchCount) r new)
        (λ m. Advances old k m r new)) (sym there)
        (subst (λ d. MatchBool d (Refuses old (fault_number CountFull) r new)
        ((r ≡ reply.Done) × (new ≡ counted))) (sym test) did)

    advanced_by : (b : Bool) → (n == 2 ^ 64 - 1) ≡ b
        → IsServed c old (call.Advance k) 0
        (carried 8 (8 * k) (if b then record { out = out.Full; next = None }
        else record { out = out.Done; next = Some (n + 1) }) words)
    advanced_by true full =
        unchanged (call.Advance k) 0 out.Full
        (advances (reply.Refused 7) old true full (refl, refl))
    advanced_by false room = record {
      new = counted;
      answers = advances reply.Done counted false room (refl, refl);
      here = write_count old.counts k (n + 1) (slice_get_within old.counts k n there);
      others = λ q inside ne. rw (ne_eqb q 0 ne) refl;
      blocks = refl;
    }

    pub advance_served : IsServed c old (call.Advance k) 0
        (carried_out (word.Advance (8 * k)) words)
    advance_served =
        subst (λ (m : ℕ). IsServed c old (call.Advance k) 0 (carried 8 (8 * k) (advanced m) words))
        (sym count_read)
        (advanced_by (n == 2 ^ 64 - 1) refl)

    awaited_by : (least : ℕ) (b : Bool) → nat_le least n ≡ b
        → Answers c old (call.Await k least) (reply_of (if b then out.Value n else out.NotYet)) old
    awaited_by least true enough =
        subst (λ o. MatchOption o (Refuses old (fault_number NoSuchCount) (reply.Value n) old)
        (λ m. (least ≤ m) × (reply.Value n ≡ reply.Value m) × (old ≡ old))) (sym there)
        (leb-true least n enough, refl, refl)
    awaited_by least false few = refl

    pub await_served : (least : ℕ)
        → IsServed c old (call.Await k least) 0 (carried_out (word.Await (8 * k) least) words)
    await_served least =
        unchanged (call.Await k least) 0 (awaited (number_at 8 (8 * k) words) least)
        (subst (λ m. Answers c old (call.Await k least) (reply_of (awaited m least)) old)
        (sym count_read) (awaited_by least (nat_le least n) refl))

  module _ (k : ℕ) (past : slice_get old.counts k ≡ None) where
    pub count_refused : Serves c old (call.Count k) (reply.Refused 6) old
    count_refused =
        subst (λ o. MatchOption o (Refuses old (fault_number NoSuchCount) (reply.Refused 6) old)
        (λ m. (reply.Refused 6 ≡ reply.Value m) × (old ≡ old))) (sym past) (refl, refl)

    pub advance_refused : Serves c old (call.Advance k) (reply.Refused 6) old
    advance_refused =
        subst (λ o. MatchOption o (Refuses old (fault_number NoSuchCount) (reply.Refused 6) old)
        (λ m. Advances old k m (reply.Refused 6) old)) (sym past) (refl, refl)

    pub await_refused : (least : ℕ) → Serves c old (call.Await k least) (reply.Refused 6) old
    await_refused least =
        subst (λ o. MatchOption o (Refuses old (fault_number NoSuchCount) (reply.Refused 6) old)
        (λ m. (least ≤ m) × (reply.Refused 6 ≡ reply.Value m) × (old ≡ old))) (sym past)
        (refl, refl)
