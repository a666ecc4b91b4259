-- Each row of the table of coherence events keeps all copies those of the flat memory, under every
-- manager.
use Rattle.std.proofs.Common.{◌≡◌, ◌<◌, ℕ, Bool, true, false, List, [], ◌∷◌, length, map, replicate, slice_get, Some, refl, sym, ap, ◌∙◌, subst, inl, inr}
use Rattle.std.proofs.lemmas.List.{length-replicate}
use Rattle.std.proofs.lemmas.Option.{none-some}
use Rattle.ivy_model.specs.declared.Config.{Config}
use Rattle.ivy_model.specs.stated.Config.{IsConfig}
use Rattle.ivy_wire.specs.stated.Data.{Content, Parcel}
use Rattle.ivy_wire.specs.stated.Posts.{parcel_to}
use Rattle.ivy_pagetable.specs.declared.Entry.{Entry}
use Rattle.ivy_pagetable.specs.declared.Entry.TheVariants as entry
use Rattle.ivy_pagetable.specs.declared.PutOff.{PutOff}
use Rattle.ivy_pagetable.specs.declared.Word.{Word}
use Rattle.ivy_pagetable.specs.stated.NodeSets.{nodes_with}
use Rattle.ivy_pagetable.specs.stated.States.{IdleState}
use Rattle.ivy_pagetable.specs.stated.Accesses.{reads as can_read}
use Rattle.ivy_pagetable.specs.stated.Entries.{put_offs, readable, is_owner, with_put_off, without, copying, owning}
use Rattle.ivy_pagetable.specs.stated.Manager.{Ops}
use Rattle.ivy_coherence.specs.stated.Serving.{invalidations}
use Rattle.ivy_coherence.specs.stated.MessageSteps.{sending}
use Rattle.ivy_coherence.specs.stated.PageFaults.{waiting_from}
use Rattle.proof_table.specs.stated.Letters.{Letter, Net, Place, Underway, Loose, letter_of, IsAt}
use Rattle.proof_table.specs.transitions.Letters.{goes_on, installs}
use Rattle.proof_table.specs.stated.Orderly.{IsOrderly}
use Rattle.proof_table.specs.transitions.TableSteps.{letter, bare, Served, Comes, Begins, Notice, Row, IsPreservedBy}
use Rattle.proof_table.proofs.transitions.Places.{written_here, served, freed}
use Rattle.proof_table.proofs.transitions.Parcels.{IsThe, IsNone, IsOrder, answer_step, ask_step, orders_step, free_step, stay_step}
use Rattle.proof_table.proofs.transitions.OrderlyKept.{orderly-kept}
use Rattle.proof_table.proofs.transitions.Both.{both-kept}
use Rattle.proof_table.proofs.transitions.RowsJoined.{joined_kept}
use Rattle.ivy_coherence.specs.stated.Fetching.{joined_by}
use Rattle.proof_worlds.specs.consistency.Copied.{HasBytes, CarriesCurrent, IsCopied}
use Rattle.proof_worlds.proofs.consistency.CopiedSteps.{step_copied, bytes_copied, aside_copied, taken_copied, dropped_copied}
use Rattle.proof_worlds.proofs.consistency.CopiedWords.{word_copied}

-- an entry without bytes
pub no_bytes : (e : Entry) → readable e ≡ false → is_owner e ≡ false → HasBytes e → ⊥
no_bytes e shut plain (inl h) = (let f : true ≡ false = sym h ∙ shut in cc)
no_bytes e shut plain (inr h) = (let f : true ≡ false = sym h ∙ plain in cc)

-- who has bytes of an entry that a word joined had them before
joined_bytes : (e : Entry) (w : Word) → HasBytes (joined_by e w) → HasBytes e
joined_bytes (entry.Idle s) w h = h
joined_bytes (entry.AwaitRead s) w h = h
joined_bytes (entry.AwaitWrite s) w h = h
joined_bytes (entry.AwaitAcks s) w h = h

-- who has bytes of an entry with a message put off had them before
put_bytes : (e : Entry) (q : PutOff) → HasBytes (with_put_off e q) → HasBytes e
put_bytes (entry.Idle s) q h = h
put_bytes (entry.AwaitRead s) q h = h
put_bytes (entry.AwaitWrite s) q h = h
put_bytes (entry.AwaitAcks s) q h = h

-- who waits for the page keeps the copy that it had
awaiting_bytes : (s : IdleState) (w : Word) (call : ℕ)
    → HasBytes
    (entry.AwaitWrite (record { had_copy = can_read s.access; waiting = waiting_from w call }))
    → HasBytes (entry.Idle s)
awaiting_bytes s w call (inl has) = inl has
awaiting_bytes s w call (inr has) = absurd (let f : false ≡ true = has in cc)

module _ (c : Config) (n : Net) (f : ℕ → List ℕ) (h : IsCopied c n f) where
  -- a letter that carries what the flat memory has, or no page, takes the place of the one that is
  -- served
  answered : {T : Type 0} {at : T → Entry} {ask : ℕ → Content} (r : Served c n at ask) (z : Entry)
      (dest : ℕ) (body : Content)
      → ((k : ℕ) (q : PutOff) → slice_get (put_offs z) k ≡ Some q
      → slice_get (put_offs (at r.state)) k ≡ Some q)
      → (HasBytes z → n.page r.node r.page ≡ f r.page) → CarriesCurrent f body
      → IsCopied c
      (goes_on n r.node r.page z r.rest (parcel_to r.node dest r.origin r.call body ∷ [])) f
  answered {at = at} {ask = ask} r z dest body same has carries =
      step_copied c n (goes_on n x p z rest posts) x p (at s) z served
      (IsThe (Underway x dest (length (n.posted x dest))) (letter x dest origin call body))
      (answer_step n x p (at s) z (letter from x origin call (ask p)) rest dest origin call body is
      loose same) f (λ i q. refl) has
      (λ a l it. subst (λ (m : Letter). CarriesCurrent f m.message.content) (sym it.1) carries) h
    where
      open r use {node as x, page as p, from, origin, call, state as s, rest, loose, is}

      posts : List Parcel
      posts = parcel_to x dest origin call body ∷ []

  -- a word begins to wait, and asks
  asked : (r : Begins c n) (z : Entry) (hop : ℕ) (body : Content) → put_offs z ≡ []
      → (HasBytes z → HasBytes (entry.Idle r.state)) → CarriesCurrent f body
      → IsCopied c (goes_on n r.node r.page z [] (parcel_to r.node hop r.node r.call body ∷ [])) f
  asked r z hop body none has carries =
      step_copied c n (goes_on n x p z [] (parcel_to x hop x call body ∷ [])) x p (entry.Idle s) z
      served (IsThe (Underway x hop (length (n.posted x hop))) (letter x hop x call body))
      (ask_step n x p (entry.Idle s) z hop x call body is loose
      (λ k q there. absurd (none-some q (ap (λ v. slice_get v k) (sym none) ∙ there)))) f
      (λ i q. refl)
      (λ there. h.had x p (subst HasBytes (sym is) (has there)))
      (λ a l it. subst (λ (m : Letter). CarriesCurrent f m.message.content) (sym it.1) carries) h
    where
      open r use {node as x, page as p, call, state as s, loose, is}

  -- orders to give copies up are posted
  ordered : (x p : ℕ) (e z : Entry) (call : ℕ) (nodes : _) → n.entry x p ≡ e
      → ((k : ℕ) (q : PutOff) → slice_get (put_offs z) k ≡ Some q
      → slice_get (put_offs e) k ≡ Some q)
      → (HasBytes z → n.page x p ≡ f p)
      → IsCopied c (goes_on n x p z [] (invalidations x p call nodes)) f
  ordered x p e z call nodes is same has =
      step_copied c n (goes_on n x p z [] (invalidations x p call nodes)) x p e z served
      (IsOrder n x p call nodes)
      (orders_step n x p e z call nodes is same) f (λ i q. refl) has
      (λ a l it. subst (λ (m : Letter). CarriesCurrent f m.message.content) (sym it.3) tt) h

  -- what was put off is loose
  freed_copied : (x p : ℕ) (e z : Entry) → n.entry x p ≡ e → put_offs z ≡ []
      → (HasBytes z → n.page x p ≡ f p)
      → IsCopied c (goes_on n x p z (map (letter_of x p) (put_offs e)) []) f
  freed_copied x p e z is none has =
      step_copied c n (goes_on n x p z (map (letter_of x p) (put_offs e)) []) x p e z (freed x p)
      IsNone (free_step n x p e z (put_offs e) is refl none) f (λ i q. refl) has
      (λ a l new. absurd new) h

  stayed : (x p : ℕ) (e z : Entry) → n.entry x p ≡ e
      → ((k : ℕ) (q : PutOff) → slice_get (put_offs z) k ≡ Some q
      → slice_get (put_offs e) k ≡ Some q) → (HasBytes z → n.page x p ≡ f p)
      → IsCopied c (goes_on n x p z [] []) f
  stayed x p e z is same has =
      step_copied c n (goes_on n x p z [] []) x p e z served IsNone (stay_step n x p e z is same) f
      (λ i q. refl) has (λ a l new. absurd new) h

  -- an owner has bytes
  owner_had : (x p : ℕ) (e : Entry) → n.entry x p ≡ e → is_owner e ≡ true → n.page x p ≡ f p
  owner_had x p e is owner = h.had x p (inr (ap is_owner is ∙ owner))

  -- the bytes that come are the flat memory's, and the node has them then
  module _ {T : Type 0} {at : T → Entry} {bring : ℕ → Content} (r : Comes c n at bring)
      (bytes : List ℕ) (brings : CarriesCurrent f (bring r.page) → bytes ≡ f r.page) where
    open r use {node as x, page as p, from, call, state as s, inside, loose, is}

    same_bytes : bytes ≡ f p
    same_bytes =
        brings (h.carried (Loose 0) (letter from x x call (bring p))
        (ap (λ v. slice_get v 0) loose))

    brought : IsCopied c (installs n x p bytes) f
    brought = bytes_copied c n f h x p bytes inside same_bytes

    has_them : (installs n x p bytes).page x p ≡ f p
    has_them = written_here n.page x p bytes x p refl refl ∙ same_bytes

-- what was put off is loose, or orders go out, at a node that has the bytes that came
module _ (c : Config) (n : Net) (f : ℕ → List ℕ) (h : IsCopied c n f) {T : Type 0} {at : T → Entry}
    {bring : ℕ → Content} (r : Comes c n at bring) (bytes : List ℕ)
    (brings : CarriesCurrent f (bring r.page) → bytes ≡ f r.page) where
  open r use {node as x, page as p, call, state as s, is}

  freed_with : (z : Entry) → put_offs z ≡ []
      → IsCopied c (installs (goes_on n x p z (map (letter_of x p) (put_offs (at s))) []) x p bytes)
      f
  freed_with z none =
      freed_copied c (installs n x p bytes) f (brought c n f h r bytes brings) x p (at s) z is none
      (λ has. has_them c n f h r bytes brings)

  ordered_with : (z : Entry) (nodes : _)
      → ((k : ℕ) (q : PutOff) → slice_get (put_offs z) k ≡ Some q
      → slice_get (put_offs (at s)) k ≡ Some q)
      → IsCopied c (installs (goes_on n x p z [] (invalidations x p call nodes)) x p bytes) f
  ordered_with z nodes put =
      ordered c (installs n x p bytes) f (brought c n f h r bytes brings) x p (at s) z call nodes is
      put (λ has. has_them c n f h r bytes brings)

module _ (c : Config) where
  copied_by : {sends : Bool} {n : Net} {f : ℕ → List ℕ} {notice : Notice} {n' : Net} {f' : ℕ → List ℕ}
      → Row sends c n f notice n' f'
      → IsOrderly c n → IsCopied c n f → IsCopied c n' f'
  copied_by {n} {f} (Row.carries r) o h =
      word_copied c n f r.node r.page r.state r.word r.is r.enough o h r.here r.inside r.is_word
  copied_by (Row.takes r) o h = taken_copied c _ _ h r.source r.dest r.message r.first
  copied_by (Row.drops r) o h = dropped_copied c _ _ h r.node r.old r.rest r.loose
  copied_by (Row.shares r owner low) o h = answered c _ _ h r _ _ _ (λ k q there. there)
      (λ has. owner_had c _ _ h r.node r.page (entry.Idle r.state) r.is owner)
      (owner_had c _ _ h r.node r.page (entry.Idle r.state) r.is owner)
  copied_by (Row.gives r owner low) o h = answered c _ _ h r _ _ _ (λ k q there. there)
      (λ has. absurd (no_bytes (entry.Idle without) refl refl has))
      (owner_had c _ _ h r.node r.page (entry.Idle r.state) r.is owner)
  copied_by (Row.sends_on_read r hop plain away) o h = answered c _ _ h r _ _ _ (λ k q there. there)
      (λ has. h.had r.node r.page (subst HasBytes (sym r.is) has)) tt
  copied_by (Row.sends_on_write r hop plain away) o h =
      answered c _ _ h r _ _ _ (λ k q there. there)
      (λ has. h.had r.node r.page (subst HasBytes (sym r.is) has)) tt
  copied_by (Row.reader_sends_on_read r hop sends away) o h =
      answered c _ _ h r _ _ _ (λ k q there. there)
      (λ has. absurd (no_bytes (entry.AwaitRead (sending r.state)) refl refl has)) tt
  copied_by (Row.reader_sends_on_write r hop sends away) o h =
      answered c _ _ h r _ _ _ (λ k q there. there)
      (λ has. absurd (no_bytes (entry.AwaitRead (sending r.state)) refl refl has)) tt
  copied_by (Row.ends_copy r sender plain) o h = answered c _ _ h r _ _ _ (λ k q there. there)
      (λ has. absurd (no_bytes (entry.Idle without) refl refl has)) tt
  copied_by (Row.gives_up r sender) o h = answered c _ _ h r _ _ _ (λ k q there. there)
      (λ has. absurd (no_bytes (entry.AwaitWrite (bare r.state)) refl refl has)) tt
  copied_by (Row.puts_off r kept) o h =
      aside_copied c _ _ h r.node r.page r.before (with_put_off r.before r.later) _ r.rest r.is
      r.loose (put_bytes r.before r.later)
  copied_by (Row.copy_comes bytes r same quiet) o h =
      freed_with c _ _ h r bytes (λ b. b) (entry.Idle copying) refl
  copied_by (Row.copy_comes_late bytes r same sent) o h =
      freed_with c _ _ h r bytes (λ b. b) (entry.Idle copying) refl
  copied_by (Row.page_comes copies bytes r same none) o h =
      freed_with c _ _ h r bytes (λ b. b) (entry.Idle owning) refl
  copied_by (Row.page_comes_shared copies bytes r same some out low) o h =
      ordered_with c _ _ h r bytes (λ b. b) _ (nodes_with copies) (λ k q there. there)
  copied_by (Row.acknowledges r same left more) o h =
      stayed c _ _ h r.node r.page (entry.AwaitAcks r.state) _ r.is (λ k q there. there)
      (λ has. owner_had c _ _ h r.node r.page (entry.AwaitAcks r.state) r.is refl)
  copied_by (Row.acknowledges_last r same left last) o h =
      freed_copied c _ _ h r.node r.page (entry.AwaitAcks r.state) (entry.Idle owning) r.is refl
      (λ has. owner_had c _ _ h r.node r.page (entry.AwaitAcks r.state) r.is refl)
  copied_by (Row.asks_copy r hop plain unread away) o h = asked c _ _ h r _ _ _ refl
      (λ has. absurd (no_bytes (entry.AwaitRead (waiting_from r.word r.call)) refl refl has)) tt
  copied_by (Row.asks_page r hop plain away) o h =
      asked c _ _ h r _ _ _ refl (awaiting_bytes r.state r.word r.call) tt
  copied_by (Row.ends_copies r owner reader unwritten low out) o h =
      ordered c _ _ h r.node r.page (entry.Idle r.state) _ r.call r.state.copies r.is
      (λ k q there. absurd (none-some q there))
      (λ has. owner_had c _ _ h r.node r.page (entry.Idle r.state) r.is owner)
  copied_by (Row.joins r) o h =
      stayed c _ _ h r.node r.page r.before _ r.is (joined_kept r.before r.word)
      (λ has. h.had r.node r.page (subst HasBytes (sym r.is) (joined_bytes r.before r.word has)))

pub copied-kept : {S : Type 0} {sends : Bool} (ops : Ops S) (c : Config) → IsConfig c
    → IsPreservedBy sends ops c (λ m n f. IsOrderly c n × IsCopied c n f)
copied-kept ops c config =
    both-kept (orderly-kept ops c config)
    (record { by = λ row of order after copied. copied_by c row order copied })

-- at first all bytes are 0, and there is no letter
pub opening_copied : (c : Config) (n : Net) (f : ℕ → List ℕ)
    → ((x p : ℕ) → HasBytes (n.entry x p) → (x < c.nodes) × (p < c.pages))
    → ((x p : ℕ) → x < c.nodes → p < c.pages → n.page x p ≡ replicate c.page_size 0)
    → ((p : ℕ) → p < c.pages → f p ≡ replicate c.page_size 0)
    → ((at : Place) (l : Letter) → IsAt n at l → ⊥) → IsCopied c n f
opening_copied c n f inside zeros flat none = record {
  had = λ x p has. (let there = inside x p has in zeros x p there.0 there.1 ∙ sym (flat p there.1));
  carried = λ at l there. absurd (none at l there);
  flat_sized = λ p within. ap length (flat p within) ∙ length-replicate c.page_size 0;
  sized = λ x p low within. ap length (zeros x p low within) ∙ length-replicate c.page_size 0;
}
