-- A node serves a request or begins to wait: how the requests about the page move then.
use Rattle.std.proofs.Common.{◌≡◌, ◌≢◌, ◌⊎◌, ◌<◌, ◌%◌, ℕ, true, false, List, [], ◌∷◌, length, slice_get, refl, sym, ap, ◌∙◌, subst, inl, inr}
use Rattle.std.proofs.lemmas.Bool.{cases_eq, both_ways}
use Rattle.std.proofs.lemmas.Option.{none-some}
use Rattle.ivy_model.specs.declared.Config.{Config}
use Rattle.ivy_wire.specs.declared.Content.TheVariants as content
use Rattle.ivy_pagetable.specs.declared.Entry.{Entry}
use Rattle.ivy_wire.specs.stated.Data.{Content}
use Rattle.ivy_wire.specs.stated.Posts.{parcel_to}
use Rattle.ivy_pagetable.specs.declared.Entry.TheVariants as entry
use Rattle.ivy_pagetable.specs.declared.Word.{Word}
use Rattle.ivy_pagetable.specs.stated.States.{IdleState}
use Rattle.ivy_pagetable.specs.stated.Entries.{without}
use Rattle.ivy_pagetable.specs.stated.Accesses.{reads}
use Rattle.ivy_coherence.specs.stated.PageFaults.{waiting_from}
use Rattle.ivy_fixed.specs.stated.Fixed.{Owners, owner_kept, hop_of, fixed_ops}
use Rattle.ivy_fixed.specs.FixedLaws.{fixed_laws}
use Rattle.proof_table.specs.stated.Letters.{Letter, Net, Place, Underway, Loose}
use Rattle.proof_table.specs.transitions.Letters.{goes_on}
use Rattle.proof_table.specs.stated.Orderly.{IsOrderly}
use Rattle.proof_table.specs.transitions.TableSteps.{Served, Begins, letter, with_manager}
use Rattle.proof_table.proofs.transitions.Places.{served}
use Rattle.proof_table.proofs.transitions.NetSteps.{IsStep}
use Rattle.proof_table.proofs.transitions.Parcels.{IsThe, answer_step, ask_step}
use Rattle.proof_table.specs.stated.Descending.{IsAsked}
use Rattle.proof_table.specs.routing.Claiming.{claims, IsReader, asking}
use Rattle.proof_table.specs.routing.Managing.{IsRoutedByManaging, IsManaged}
use Rattle.proof_table.proofs.routing.Moves.{ReadSent, WriteSent, GivenHere, GivenElsewhere, AskedHere, AskedElsewhere}
use Rattle.proof_table.proofs.routing.Managers.{IsTold, none_told, one_told, told_here, told_else, told_itself}
use Rattle.proof_table.proofs.routing.Hops.{hop_elsewhere, hop_kept}
use Rattle.proof_table.proofs.routing.Asked.{IsOther, idle_unread, other_asker, asked_or_new, asked_others}
use Rattle.proof_table.proofs.routing.Asked.{asked_elsewhere, AreStill, idle_silent, reader_or_new}
use Rattle.proof_table.proofs.routing.Asked.{reader_others, reader_elsewhere, only_still, none_gone}
use Rattle.proof_table.proofs.routing.Asked.{served_or_still, still_elsewhere}
use Rattle.proof_table.proofs.routing.Claims.{reader_unclaimed, writer_claims, claims_else, claims_same}
use Rattle.proof_table.proofs.routing.Managed.{MoveAt, page_managed}
use Rattle.proof_table.proofs.routing.Remaining.{IsThere, Remain, IsOnly, IsCounted, still_counted, served_remain, begun_remain, letter_there}

-- a node with an idle entry: it serves a letter there, or a word of its own begins to wait
pub record IsIdle (c : Config) (n : Net) : Type 0 where
  pub node : ℕ
  pub page : ℕ
  pub state : IdleState
  pub here : node < c.nodes
  pub inside : page < c.pages
  pub is : n.entry node page ≡ entry.Idle state

abbrev pub serving : {c : Config} {n : Net} {ask : ℕ → Content} → Served c n entry.Idle ask
    → IsIdle c n
serving r =
    record {
      node = r.node;
      page = r.page;
      state = r.state;
      here = r.here;
      inside = r.inside;
      is = r.is;
    }

abbrev pub beginning : {c : Config} {n : Net} → Begins c n → IsIdle c n
beginning r =
    record {
      node = r.node;
      page = r.page;
      state = r.state;
      here = r.here;
      inside = r.inside;
      is = r.is;
    }

module _ (c : Config) (m : ℕ → Owners) (n : Net) (order : IsOrderly c n) (managed : IsManaged c m n)
    (idle : IsIdle c n) where
  open idle use {node as x, page as p, state as s, here, inside as page, is}

  abbrev manager : ℕ
  manager = p % c.nodes

  abbrev kept_owner : ℕ
  kept_owner = hop_of (m manager) p

  abbrev Routed : Type 0
  Routed =
      IsRoutedByManaging (λ y. claims (n.entry y p)) (IsAsked n (content.WriteReq p)) (IsReader n p) manager
      kept_owner

  routed : Routed
  routed = managed.routed p page

  claims_owner : claims (n.entry x p) ≡ s.owner
  claims_owner = ap claims is

  -- the managing node asks the kept owner, and the others the managing node
  hop_here : x ≡ manager → hop_of (m x) p ≡ kept_owner
  hop_here same = ap (λ i. hop_of (m i) p) same

  hop_there : x ≢ manager → hop_of (m x) p ≡ manager
  hop_there ne = hop_elsewhere (m x) x c.nodes p (managed.me x here) (managed.nodes x here) ne

  -- once the managing node is told of an owner, it keeps that one
  kept_told : (o : ℕ) → x ≡ manager → hop_of (with_manager m x (owner_kept (m x) p o) manager) p ≡ o
  kept_told o same = ap (λ v. hop_of v p) (told_here m x (owner_kept (m x) p o) manager (sym same))
      ∙ hop_kept (m x) p o
      (ap (λ k. p % k) (managed.nodes x here) ∙ sym same ∙ sym (managed.me x here))
      (subst (λ k. p < k) (sym (managed.size x here)) page)

  module _ (plain : s.owner ≡ false) where
    abbrev unclaimed : claims (n.entry x p) ≡ false
    unclaimed = claims_owner ∙ plain

    -- where a request to read goes on
    read_route : (o : ℕ) → IsAsked n (content.ReadReq p) o x
        → ((hop_of (m x) p ≡ manager) × (o ≢ manager))
        ⊎ ((hop_of (m x) p ≡ kept_owner) × (claims (n.entry manager p) ≡ false) × (o ≢ kept_owner))
    read_route o asked = elim (cases_eq x manager) [
      | inl same ↦ (
          let plain_manager : claims (n.entry manager p) ≡ false =
          subst (λ i. claims (n.entry i p) ≡ false) same unclaimed in
          inr (
            hop_here same,
            plain_manager,
            λ h. both_ways (claims (n.entry o p)) (reader_unclaimed c n order p o x asked)
                (ap (λ i. claims (n.entry i p)) h ∙ routed.kept_claims plain_manager),
          )
          )
      | inr ne ↦ inl (
        hop_there ne,
        λ h. both_ways (claims (n.entry x p)) unclaimed (
            ap (λ i. claims (n.entry i p))
            (routed.manager_reads x
            (asking (subst (λ i. IsAsked n (content.ReadReq p) i x) h asked)))
            ∙ routed.kept_claims
            (subst (λ i. claims (n.entry i p) ≡ false) h
            (reader_unclaimed c n order p o x asked))
            ),
      )
    ]

    begun_route : ((hop_of (m x) p ≡ manager) × (x ≢ manager))
        ⊎ ((hop_of (m x) p ≡ kept_owner) × (claims (n.entry manager p) ≡ false) × (x ≢ kept_owner))
    begun_route = elim (cases_eq x manager) [
      | inl same ↦ (
          let plain_manager : claims (n.entry manager p) ≡ false =
          subst (λ i. claims (n.entry i p) ≡ false) same unclaimed in
          inr (hop_here same, plain_manager, λ h. routed.kept_away plain_manager (sym h ∙ same))
          )
      | inr ne ↦ inl (hop_there ne, ne)
    ]

    -- one letter is new, a request of o to read
    read_moved : (m' : ℕ → Owners) (n' : Net) (z : Entry) (at : Place) (source o call : ℕ)
        → IsTold fixed_ops m m' x p → hop_of (m' manager) p ≡ kept_owner
        → IsStep n n' x p (entry.Idle s) z served
        (IsThe at (letter source (hop_of (m x) p) o call (content.ReadReq p))) → IsCounted n'
        → AreStill n n' → claims z ≡ s.owner
        → ((hop_of (m x) p ≡ manager) × (o ≢ manager))
        ⊎ ((hop_of (m x) p ≡ kept_owner) × (claims (n.entry manager p) ≡ false) × (o ≢ kept_owner))
        → IsManaged c m' n'
    read_moved m' n' z at source o call t kept step counted remains still route =
        page_managed c m m' n n' x p t order counted
        (λ y q ne. claims_same n n' x p (entry.Idle s) z served (IsThe at new) step still y q)
        (λ q ne. asked_elsewhere n n' x p (entry.Idle s) z served at new step q refl ne
        (content.WriteReq q) refl)
        (λ q ne. reader_elsewhere n n' x p (entry.Idle s) z served at new step q refl ne)
        (λ q ne. remains q)
        (ReadSent o (hop_of (m x) p) (record {
          claims = λ y. claims_same n n' x p (entry.Idle s) z served (IsThe at new) step still y p;
          writes =
              λ i y v.
              (asked_others n n' x p (entry.Idle s) z served at new step (content.WriteReq p)
              (λ h. cc) i y v).was;
          reads = λ i y v.
              elim (reader_or_new n n' x p (entry.Idle s) z served at new step p (λ bytes h. cc) i y
              v) [
                | inl h ↦ inl h
                | inr h ↦ inr (sym h.1, sym h.0)
              ];
          stays = remains p;
          kept = kept;
          route = route;
        })) managed
      where
        new : Letter
        new = letter source (hop_of (m x) p) o call (content.ReadReq p)

    -- one letter is new, a request of x to write, and x waits for the page
    write_moved : (m' : ℕ → Owners) (n' : Net) (z : Entry) (at : Place) (call : ℕ)
        → IsTold fixed_ops m m' x p → hop_of (m' manager) p ≡ kept_owner
        → IsStep n n' x p (entry.Idle s) z served
        (IsThe at (letter x (hop_of (m x) p) x call (content.WriteReq p))) → IsCounted n'
        → AreStill n n'
        → IsThere n' (letter x (hop_of (m x) p) x call (content.WriteReq p)) → claims z ≡ true
        → IsManaged c m' n'
    write_moved m' n' z at call t kept step counted remains there waits =
        page_managed c m m' n n' x p t order counted
        (λ y q ne. claims_else n n' x p (entry.Idle s) z served (IsThe at new) step y q (inr ne))
        (λ q ne. asked_elsewhere n n' x p (entry.Idle s) z served at new step q refl ne
        (content.WriteReq q) refl)
        (λ q ne. reader_elsewhere n n' x p (entry.Idle s) z served at new step q refl ne)
        (λ q ne. remains q)
        move managed
      where
        new : Letter
        new = letter x (hop_of (m x) p) x call (content.WriteReq p)

        other_claims : (y : ℕ) → y ≢ x → claims (n'.entry y p) ≡ claims (n.entry y p)
        other_claims y ne =
            claims_else n n' x p (entry.Idle s) z served (IsThe at new) step y p (inl ne)

        other_reads : (i y : ℕ) → IsReader n' p i y → IsReader n p i y
        other_reads =
            reader_others n n' x p (entry.Idle s) z served at new step p (λ bytes h. cc) (λ h. cc)

        move : MoveAt c m m' n n' p
        move = elim (cases_eq x manager) [
          | inl same ↦ AskedHere (record {
            claims = λ y ne. other_claims y (λ h. ne (h ∙ same));
            writes =
                λ i y v.
                elim (asked_or_new n n' x p (entry.Idle s) z served at new step (content.WriteReq p)
                i y v) [
                  | inl h ↦ inl h.was
                  | inr h ↦ inr (sym h.1 ∙ same, sym h.0 ∙ hop_here same)
                ];
            reads = other_reads;
            stays = remains p;
            asks = record {
              at = there.0;
              letter = new;
              there = there.1;
              dest = hop_here same;
              asker = same;
              asks = refl;
            };
            kept = kept;
            plain = subst (λ i. claims (n.entry i p) ≡ false) same unclaimed;
            waits = subst (λ i. claims (n'.entry i p) ≡ true) same (ap claims step.after ∙ waits);
          })
          | inr ne ↦ AskedElsewhere x (record {
            claims = other_claims;
            writes =
                λ i y v.
                elim (asked_or_new n n' x p (entry.Idle s) z served at new step (content.WriteReq p)
                i y v) [
                  | inl h ↦ inl h.was
                  | inr h ↦ inr (sym h.1, sym h.0 ∙ hop_there ne)
                ];
            reads = other_reads;
            stays = remains p;
            kept = kept;
            away = ne;
            plain = unclaimed;
            waits = ap claims step.after ∙ waits;
          })
        ]

    -- the rows: a request to read is sent on; a word begins to wait for a copy; for the page
    pub sent_on_read : (from o call : ℕ) (rest : List Letter)
        → n.loose ≡ letter from x o call (content.ReadReq p) ∷ rest
        → IsManaged c (with_manager m x (m x))
        (goes_on n x p (entry.Idle s) rest
        (parcel_to x (hop_of (m x) p) o call (content.ReadReq p) ∷ []))
    sent_on_read from o call rest loose =
        read_moved (with_manager m x (m x)) _ (entry.Idle s) _ x o call
        (none_told fixed_ops m _ x p (told_itself m x))
        (ap (λ v. hop_of v p) (told_itself m x manager))
        (answer_step n x p (entry.Idle s) (entry.Idle s) _ rest (hop_of (m x) p) o call
        (content.ReadReq p) is loose (λ k q h. h))
        (still_counted n x p (entry.Idle s) rest
        (parcel_to x (hop_of (m x) p) o call (content.ReadReq p) ∷ []) managed.counted)
        (only_still n _ (letter from x o call (content.ReadReq p))
        (served_remain n x p (entry.Idle s) (entry.Idle s) rest
        (parcel_to x (hop_of (m x) p) o call (content.ReadReq p) ∷ []) is
        (letter from x o call (content.ReadReq p)) loose (λ j r h. h)) (λ q h. cc)) refl
        (read_route o
        (record {
          at = Loose 0;
          letter = letter from x o call (content.ReadReq p);
          there = ap (λ v. slice_get v 0) loose;
          dest = refl;
          asker = refl;
          asks = refl;
        }))

    pub began_to_read : (call : ℕ) (w : Word) → n.loose ≡ []
        → IsManaged c m
        (goes_on n x p (entry.AwaitRead (waiting_from w call)) []
        (parcel_to x (hop_of (m x) p) x call (content.ReadReq p) ∷ []))
    began_to_read call w loose =
        read_moved m _ (entry.AwaitRead (waiting_from w call)) _ x x call
        (none_told fixed_ops m m x p (λ i. refl)) refl
        (ask_step n x p (entry.Idle s) (entry.AwaitRead (waiting_from w call)) (hop_of (m x) p) x
        call (content.ReadReq p) is loose (λ k q h. absurd (none-some q h)))
        (still_counted n x p (entry.AwaitRead (waiting_from w call)) []
        (parcel_to x (hop_of (m x) p) x call (content.ReadReq p) ∷ []) managed.counted)
        (none_gone n _
        (begun_remain n x p (entry.Idle s) (entry.AwaitRead (waiting_from w call)) []
        (parcel_to x (hop_of (m x) p) x call (content.ReadReq p) ∷ []) is loose
        (λ j r h. absurd (none-some r h))))
        (sym plain) begun_route

    pub began_to_write : (call : ℕ) (w : Word) → n.loose ≡ []
        → IsManaged c m
        (goes_on n x p
        (entry.AwaitWrite (record { had_copy = reads s.access; waiting = waiting_from w call }))
        [] (parcel_to x (hop_of (m x) p) x call (content.WriteReq p) ∷ []))
    began_to_write call w loose =
        write_moved m _
        (entry.AwaitWrite (record { had_copy = reads s.access; waiting = waiting_from w call })) _
        call (none_told fixed_ops m m x p (λ i. refl)) refl
        (ask_step n x p (entry.Idle s)
        (entry.AwaitWrite (record { had_copy = reads s.access; waiting = waiting_from w call }))
        (hop_of (m x) p) x call (content.WriteReq p) is loose (λ k q h. absurd (none-some q h)))
        (still_counted n x p
        (entry.AwaitWrite (record { had_copy = reads s.access; waiting = waiting_from w call }))
        [] (parcel_to x (hop_of (m x) p) x call (content.WriteReq p) ∷ []) managed.counted)
        (none_gone n _
        (begun_remain n x p (entry.Idle s)
        (entry.AwaitWrite (record { had_copy = reads s.access; waiting = waiting_from w call }))
        []
        (parcel_to x (hop_of (m x) p) x call (content.WriteReq p) ∷ []) is loose
        (λ j r h. absurd (none-some r h))))
        (letter_there n x p
        (entry.AwaitWrite (record { had_copy = reads s.access; waiting = waiting_from w call }))
        [] (hop_of (m x) p) x call (content.WriteReq p) managed.counted) refl

  -- a request of o to write is served
  module _ (from o call : ℕ) (rest : List Letter)
      (loose : n.loose ≡ letter from x o call (content.WriteReq p) ∷ rest) where
    asked : IsAsked n (content.WriteReq p) o x
    asked = record {
      at = Loose 0;
      letter = letter from x o call (content.WriteReq p);
      there = ap (λ v. slice_get v 0) loose;
      dest = refl;
      asker = refl;
      asks = refl;
    }

    not_o : (i y : ℕ) → IsOther n (content.WriteReq p) i y → i ≢ o
    not_o i y other =
        other_asker c n order (letter from x o call (content.WriteReq p)) rest p i y
        (content.WriteReq p) loose refl (λ l. refl) other

    t : IsTold fixed_ops m (with_manager m x (owner_kept (m x) p o)) x p
    t = one_told m x fixed_ops (owner_kept (m x) p o) p (fixed_laws.keeps_given (m x) p o)

    -- by another node than the owner: it is the managing one
    pub sent_on_write : s.owner ≡ false
        → IsManaged c (with_manager m x (owner_kept (m x) p o))
        (goes_on n x p (entry.Idle s) rest
        (parcel_to x (hop_of (m x) p) o call (content.WriteReq p) ∷ []))
    sent_on_write plain = page_managed c m (with_manager m x (owner_kept (m x) p o)) n n' x p t order
        (still_counted n x p (entry.Idle s) rest
        (parcel_to x (hop_of (m x) p) o call (content.WriteReq p) ∷ []) managed.counted)
        (λ y q ne. claims_same n n' x p (entry.Idle s) (entry.Idle s) served (IsThe at new) step
        refl y q)
        (λ q ne. asked_elsewhere n n' x p (entry.Idle s) (entry.Idle s) served at new step q refl ne
        (content.WriteReq q) refl)
        (λ q ne. reader_elsewhere n n' x p (entry.Idle s) (entry.Idle s) served at new step q refl
        ne)
        (still_elsewhere n n' from x o call p remain)
        (WriteSent o (record {
          claims =
              λ y. claims_same n n' x p (entry.Idle s) (entry.Idle s) served (IsThe at new) step
              refl y p;
          writes =
              λ i y v.
              elim (asked_or_new n n' x p (entry.Idle s) (entry.Idle s) served at new step
              (content.WriteReq p) i y v) [
                | inl h ↦ inl (h.was, not_o i y h)
                | inr h ↦ inr (sym h.1, sym h.0 ∙ hop_here same)
              ];
          reads = reader_others n n' x p (entry.Idle s) (entry.Idle s) served at new step p
              (λ bytes h. cc) (λ h. cc);
          stays = λ i y v.
              elim (served_or_still n n' from x o call p remain i y v) [
                | inl h ↦ inl h
                | inr h ↦
                    inr (h.0, h.1 ∙ same)
              ];
          sent = record {
            at = there.0;
            letter = new;
            there = there.1;
            dest = hop_here same;
            asker = refl;
            asks = refl;
          };
          kept = kept_told o same;
          plain = subst (λ i. claims (n.entry i p) ≡ false) same (claims_owner ∙ plain);
          unread =
              λ y k. idle_unread c n order p manager y s
              (subst (λ i. n.entry i p ≡ entry.Idle s) same is) k;
          asked = subst (IsAsked n (content.WriteReq p) o) same asked;
          waits = writer_claims c n order p o x asked;
        })) managed
      where
        n' : Net
        n' = goes_on n x p (entry.Idle s) rest
            (parcel_to x (hop_of (m x) p) o call (content.WriteReq p) ∷ [])

        at : Place
        at = Underway x (hop_of (m x) p) (length (n.posted x (hop_of (m x) p)))

        new : Letter
        new = letter x (hop_of (m x) p) o call (content.WriteReq p)

        step : IsStep n n' x p (entry.Idle s) (entry.Idle s) served (IsThe at new)
        step = answer_step n x p (entry.Idle s) (entry.Idle s) _ rest (hop_of (m x) p) o call
            (content.WriteReq p) is loose (λ k q h. h)

        remain : Remain n n' (IsOnly (letter from x o call (content.WriteReq p)))
        remain =
            served_remain n x p (entry.Idle s) (entry.Idle s) rest
            (parcel_to x (hop_of (m x) p) o call (content.WriteReq p) ∷ []) is
            (letter from x o call (content.WriteReq p)) loose (λ j r h. h)

        there : IsThere n' new
        there = letter_there n x p (entry.Idle s) rest (hop_of (m x) p) o call (content.WriteReq p)
            managed.counted

        same : x ≡ manager
        same = elim (cases_eq x manager) [
          | inl h ↦ h
          | inr ne ↦
              absurd (both_ways (claims (n.entry x p)) (claims_owner ∙ plain)
              (routed.claimed o x ne asked))
        ]

    -- by the owner, which gives the page
    pub given : s.owner ≡ true → (bits : ℕ) (bytes : List ℕ)
        → IsManaged c (with_manager m x (owner_kept (m x) p o))
        (goes_on n x p (entry.Idle without) rest
        (parcel_to x o o call (content.WriteRep p bits bytes) ∷ []))
    given owner bits bytes = page_managed c m (with_manager m x (owner_kept (m x) p o)) n n' x p t order
        (still_counted n x p (entry.Idle without) rest
        (parcel_to x o o call (content.WriteRep p bits bytes) ∷ []) managed.counted)
        (λ y q ne. claims_else n n' x p (entry.Idle s) (entry.Idle without) served (IsThe at new)
        step y q (inr ne))
        (λ q ne. asked_elsewhere n n' x p (entry.Idle s) (entry.Idle without) served at new step q
        refl ne (content.WriteReq q) refl)
        (λ q ne. reader_elsewhere n n' x p (entry.Idle s) (entry.Idle without) served at new step q
        refl ne)
        (still_elsewhere n n' from x o call p remain)
        move managed
      where
        n' : Net
        n' = goes_on n x p (entry.Idle without) rest
            (parcel_to x o o call (content.WriteRep p bits bytes) ∷ [])

        at : Place
        at = Underway x o (length (n.posted x o))

        new : Letter
        new = letter x o o call (content.WriteRep p bits bytes)

        step : IsStep n n' x p (entry.Idle s) (entry.Idle without) served (IsThe at new)
        step = answer_step n x p (entry.Idle s) (entry.Idle without) _ rest o o call
            (content.WriteRep p bits bytes) is loose (λ k q h. h)

        other_claims : (y : ℕ) → y ≢ x → claims (n'.entry y p) ≡ claims (n.entry y p)
        other_claims y ne =
            claims_else n n' x p (entry.Idle s) (entry.Idle without) served (IsThe at new) step y p
            (inl ne)

        other_writes : (i y : ℕ) → IsAsked n' (content.WriteReq p) i y
            → IsAsked n (content.WriteReq p) i y × (i ≢ o)
        other_writes i y v =
            (let h =
            asked_others n n' x p (entry.Idle s) (entry.Idle without) served at new step
            (content.WriteReq p) (λ h. cc) i y v in (h.was, not_o i y h))

        other_reads : (i y : ℕ) → IsReader n' p i y → IsReader n p i y
        other_reads =
            reader_others n n' x p (entry.Idle s) (entry.Idle without) served at new step p
            (λ bytes h. cc) (λ h. cc)

        remain : Remain n n' (IsOnly (letter from x o call (content.WriteReq p)))
        remain =
            served_remain n x p (entry.Idle s) (entry.Idle without) rest
            (parcel_to x o o call (content.WriteRep p bits bytes) ∷ []) is
            (letter from x o call (content.WriteReq p)) loose (λ j r h. h)

        move : MoveAt c m (with_manager m x (owner_kept (m x) p o)) n n' p
        move = elim (cases_eq x manager) [
          | inl same ↦ GivenHere o (record {
            claims = λ y ne. other_claims y (λ h. ne (h ∙ same));
            writes = other_writes;
            reads = other_reads;
            stays = λ i y v.
                elim (served_or_still n n' from x o call p remain i y v) [
                  | inl h ↦ inl h
                  | inr h ↦
                      inr (h.0, h.1 ∙ same)
                ];
            owner = subst (λ i. claims (n.entry i p) ≡ true) same (claims_owner ∙ owner);
            kept = kept_told o same;
            unread =
                λ y k. idle_unread c n order p manager y s
                (subst (λ i. n.entry i p ≡ entry.Idle s) same is) k;
            asked = subst (IsAsked n (content.WriteReq p) o) same asked;
            waits = writer_claims c n order p o x asked;
          })
          | inr ne ↦ GivenElsewhere x o (record {
            claims = other_claims;
            writes = other_writes;
            reads = other_reads;
            stays = served_or_still n n' from x o call p remain;
            silent = λ y. idle_silent c n order p x y s is;
            kept = ap (λ v. hop_of v p)
                (told_else m x (owner_kept (m x) p o) manager (λ h. ne (sym h)));
            away = ne;
            asked = asked;
          })
        ]
