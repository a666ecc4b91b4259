-- What own code handed at each node, while the logs are made again.
use Rattle.std.proofs.Common.{◌≡◌, ℕ, zero, suc, ◌+◌, ◌<◌, ◌≤◌, List, [], ◌∷◌, ◌++◌, All, length, map, take, set, replicate, get_or, slice_get, Option, Some, option_map, refl, sym, ap, subst, ◌∙◌, append-nil, append_assoc, below_more, arith, inl, inr}
use Rattle.std.specs.Prelude.{Result, Ok, Err, IfOk, OnOk}
use Rattle.std.proofs.lemmas.Bool.{cases_eq}
use Rattle.std.proofs.lemmas.List.{length-map, take_all, take_more}
use Rattle.std.proofs.lemmas.List.Elements.{All-get_or, All-head, All-tail, All-take}
use Rattle.std.proofs.lemmas.Option.{same_Some, none-some, get_or_from_slice_get, slice_get-map, slice_get_within}
use Rattle.ivy_model.specs.declared.Fault.{Fault}
use Rattle.ivy_moves.specs.Events.{Event}
use Rattle.ivy_moves.proofs.Places.{set-there, set-elsewhere}
use Rattle.ivy_program.specs.stated.Programs.{Program, Written, Called}
use Rattle.ivy_program.specs.Programs.{IsWritten}
use Rattle.ivy_logs.specs.declared.log.LogEntry.TheVariants.{Did, Asked, Answered, Fetched}
use Rattle.ivy_logs.specs.Entries.{LogEntry}
use Rattle.ivy_logs.specs.Faults.{HandsNothing}
use Rattle.ivy_world.specs.HandedWorlds.{own_code}
use Rattle.ivy_join.specs.declared.replay_log.Outcome.{Outcome}
use Rattle.ivy_join.specs.declared.replay_log.Outcome.TheVariants.{Made, Waits, Never}
use Rattle.ivy_join.specs.Calls.{handed_by, handed_by_log, handed_by_logs, HandsOn, HasHanded, HasHandedBy, HaveHanded, HandNothing, PlaysOn}
use Rattle.ivy_join.specs.Exact.{AreAllMade}
use Rattle.ivy_join.specs.OwnJoined.{program_by, programs_by}
use Rattle.ivy_join.proofs.HandedLogs.{there_is}

-- first these entries, then those
pub by-further : (more rest : List LogEntry) (p : Program)
    → handed_by_log rest (handed_by_log more p) ≡ handed_by_log (more ++ rest) p
by-further [] rest p = refl
by-further (e ∷ more) rest p = by-further more rest (handed_by e p)

-- nothing was handed
pub none_handed : (node : ℕ) (old new : List Program) → new ≡ old → HasHanded node [] old new
none_handed node old new same = record {
  here = λ p at. ap (λ l. slice_get l node) same ∙ at;
  elsewhere = λ i apart. ap (λ l. slice_get l i) same;
}

-- first these, then those
handed-further : (node : ℕ) (more rest : List LogEntry) (a b d : List Program)
    → HasHanded node more a b → HasHanded node rest b d → HasHanded node (more ++ rest) a d
handed-further node more rest a b d x y = record {
  here = λ p at. y.here (handed_by_log more p) (x.here p at) ∙ ap Some (by-further more rest p);
  elsewhere = λ i apart. y.elsewhere i apart ∙ x.elsewhere i apart;
}

-- nothing is handed by an event, or by an answer
pub silent-handed : (node : ℕ) (entry : LogEntry) (old new : List Program) → HandsNothing entry → new ≡ old
    → HasHanded node (entry ∷ []) old new
silent-handed node (Did event) old new silent same =
    let none = none_handed node old new same in record { here = none.here; elsewhere = none.elsewhere }
silent-handed node (Asked call) old new silent same = absurd silent
silent-handed node (Answered answer) old new silent same =
    let none = none_handed node old new same in record { here = none.here; elsewhere = none.elsewhere }
silent-handed node (Fetched page write) old new silent same = absurd silent

did-handed : (node : ℕ) (event : Event) (old new : List Program) (outcome : Outcome) → new ≡ old
    → HasHandedBy node (Did event) old new outcome
did-handed node event old new Made same = silent-handed node (Did event) old new tt same
did-handed node event old new Waits same = none_handed node old new same
did-handed node event old new Never same = tt

pub did-handed-ok : (r : Result Outcome Fault) (node : ℕ) (entry : LogEntry) (event : Event)
    (old new : List Program) → entry ≡ Did event → OnOk r (new ≡ old) → IfOk r (HasHandedBy node entry old new)
did-handed-ok (Ok outcome) node entry event old new is same =
    subst (λ e. HasHandedBy node e old new outcome) (sym is) (did-handed node event old new outcome same)
did-handed-ok (Err fault) node entry event old new is same = tt

-- nothing was made yet
pub plays-begin : (node : ℕ) (entries : List LogEntry) (made : ℕ) (old : List Program)
    → PlaysOn node entries made made old old
plays-begin node entries made old = record {
  more = [];
  handed = none_handed node old old refl;
  are = sym (append-nil (take made entries));
}

-- one entry more
pub plays_further : (node : ℕ) (entries : List LogEntry) (first made : ℕ) (entry : LogEntry) (a b d : List Program)
    → made < length entries → entry ≡ get_or entries made entry → PlaysOn node entries first made a b
    → HasHanded node (entry ∷ []) b d → PlaysOn node entries first (made + 1) a d
plays_further node entries first made entry a b d below there x y = record {
  more = x.more ++ entry ∷ [];
  handed = handed-further node x.more (entry ∷ []) a b d x.handed y;
  are = take_more entries made entry below ∙ ap (λ e. take made entries ++ e ∷ []) (sym there)
      ∙ ap (λ l. l ++ entry ∷ []) x.are
      ∙ append_assoc (take first entries) x.more (entry ∷ []);
}

-- and none more
pub plays-same : (node : ℕ) (entries : List LogEntry) (first made : ℕ) (a b d : List Program)
    → PlaysOn node entries first made a b → HasHanded node [] b d → PlaysOn node entries first made a d
plays-same node entries first made a b d x y = record {
  more = x.more ++ [];
  handed = handed-further node x.more [] a b d x.handed y;
  are = x.are ∙ ap (λ l. take first entries ++ l) (sym (append-nil x.more));
}

pub replicate-is : {X : Type 0} (n : ℕ) (y : X) (i : ℕ) (x : X) → slice_get (replicate n y) i ≡ Some x
    → (i < n) × (x ≡ y)
replicate-is zero y i x at = absurd (none-some x at)
replicate-is (suc n) y zero x at = (omega arith, sym (same_Some y x at))
replicate-is (suc n) y (suc i) x at =
    let rest = replicate-is n y i x at in (omega (arith, rest.0), rest.1)

-- two lists that have the same in each place
same_lists : {X : Type 0} (xs ys : List X) → length xs ≡ length ys
    → ((i : ℕ) (y : X) → slice_get ys i ≡ Some y → slice_get xs i ≡ Some y) → xs ≡ ys
same_lists [] [] each at = refl
same_lists [] (y ∷ ys) each at = absurd (omega (arith, each))
same_lists (x ∷ xs) [] each at = absurd (omega (arith, each))
same_lists (x ∷ xs) (y ∷ ys) each at =
    ap (λ z. z ∷ xs) (same_Some x y (at 0 y refl))
    ∙ ap (λ l. y ∷ l) (same_lists xs ys (omega (arith, each)) (λ i z there. at (suc i) z there))

-- the programs of all nodes

-- first by these entries, then by those
hands-on : (log : List LogEntry) (m k m' : ℕ) (p : Program) (mid now : Option Program)
    → (x : HandsOn log m k p mid) → HandsOn log k m' (handed_by_log x.more p) now
    → HandsOn log m m' p now
hands-on log m k m' p mid now x y = record {
  more = x.more ++ y.more;
  are = y.are ∙ ap (λ l. l ++ y.more) x.are ∙ append_assoc (take m log) x.more y.more;
  is = y.is ∙ ap Some (by-further x.more y.more p);
}

-- nothing was made
pub hands-begin : (logs : List (List LogEntry)) (made : List ℕ) (old : List Program)
    → HaveHanded logs made made old old
hands-begin logs made old i log m m' p there was now at = record {
  more = [];
  are = ap (λ j. take j log) (same_Some m' m (sym now ∙ was)) ∙ sym (append-nil (take m log));
  is = at;
}

pub hands-then : (logs : List (List LogEntry)) (first made made' : List ℕ) (old mid new : List Program)
    → length first ≡ length made → HaveHanded logs first made old mid → HaveHanded logs made made' mid new
    → HaveHanded logs first made' old new
hands-then logs first made made' old mid new same x y i log m m' p there was now at =
    let inside = slice_get_within first i m was in
    let k = there_is made i (omega (arith, inside, same)) in
    let one = x i log m k.0 p there was k.1 at in
    hands-on log m k.0 m' p (slice_get mid i) (slice_get new i) one
    (y i log k.0 m' (handed_by_log one.more p) there k.1 now one.is)

-- the log of one node goes on
pub have-played : {X : Type 0} (f : X → List LogEntry) (logs : List X) (first made : List ℕ) (node : ℕ) (x : X)
    (m' : ℕ) (old cur new : List Program) → slice_get logs node ≡ Some x → node < length made
    → HaveHanded (map f logs) first made old cur → PlaysOn node (f x) (get_or made node 0) m' cur new
    → HaveHanded (map f logs) first (set made node m') old new
have-played f logs first made node x m' old cur new log below have on i l m k p there was now at =
    let here = there_is made node below in
    let so_far : ℕ = get_or made node 0 in
    let is : get_or made node 0 ≡ here.0 = get_or_from_slice_get made node here.0 0 here.1 in
    elim (cases_eq i node) [
      | inl same ↦
          (let mine : f x ≡ l =
          same_Some (f x) l
          (sym (slice_get-map f logs node ∙ ap (option_map f) log) ∙ ap (slice_get (map f logs)) (sym same)
          ∙ there) in
          let so : m' ≡ k =
          same_Some m' k
          (sym (set-there made node m' here.0 here.1) ∙ ap (slice_get (set made node m')) (sym same) ∙ now) in
          let one = have i l m (get_or made node 0) p there was
          (ap (slice_get made) same ∙ here.1 ∙ ap Some (sym is)) at in
          hands-on l m so_far k p (slice_get cur i) (slice_get new i) one (record {
            more = on.more;
            are = subst (λ es. take k es ≡ take (get_or made node 0) es ++ on.more) mine
                (subst (λ j. take j (f x) ≡ take (get_or made node 0) (f x) ++ on.more) so on.are);
            is = ap (slice_get new) same
                ∙ on.handed.here (handed_by_log one.more p) (ap (slice_get cur) (sym same) ∙ one.is);
          }))
      | inr apart ↦
          (let one = have i l m k p there was
          (sym (set-elsewhere made node i m' (λ e. apart (sym e))) ∙ now) at in
          record { more = one.more; are = one.are; is = on.handed.elsewhere i apart ∙ one.is })
    ]

with-length : (logs : List (List LogEntry)) (programs : List Program)
    → length (handed_by_logs logs programs) ≡ length programs
with-length [] programs = refl
with-length (log ∷ logs) [] = refl
with-length (log ∷ logs) (p ∷ programs) = ap suc (with-length logs programs)

with-at : (logs : List (List LogEntry)) (programs : List Program) (i : ℕ) (q : Program)
    → length programs ≡ length logs → slice_get (handed_by_logs logs programs) i ≡ Some q
    → (log : List LogEntry) × (p : Program) × (slice_get logs i ≡ Some log)
    × (slice_get programs i ≡ Some p) × (handed_by_log log p ≡ q)
with-at [] [] i q each at = absurd (none-some q at)
with-at [] (p ∷ programs) i q each at = absurd (omega (arith, each))
with-at (log ∷ logs) [] i q each at = absurd (none-some q at)
with-at (log ∷ logs) (p ∷ programs) zero q each at =
    (log, p, refl, refl, same_Some (handed_by_log log p) q at)
with-at (log ∷ logs) (p ∷ programs) (suc i) q each at = with-at logs programs i q (omega (arith, each)) at

-- where each log was made to its end, all that it says was handed
pub all-handed : (logs : List (List LogEntry)) (n : ℕ) (first made : List ℕ) (old new : List Program)
    → first ≡ replicate n 0 → length first ≡ length logs → length made ≡ length logs
    → length old ≡ length logs → length new ≡ length old → HaveHanded logs first made old new
    → AreAllMade logs made → new ≡ handed_by_logs logs old
all-handed logs n first made old new zeros firsts mades olds news have all =
    same_lists new (handed_by_logs logs old) (news ∙ sym (with-length logs old))
    (λ i q at.
    let w = with-at logs old i q olds at in
    let inside = slice_get_within logs i w.0 w.2 in
    let f = there_is first i (omega (arith, inside, firsts)) in
    let m = there_is made i (omega (arith, inside, mades)) in
    let c = have i w.0 f.0 m.0 w.1 w.2 f.1 m.1 w.3 in
    let none : f.0 ≡ 0 = (replicate-is n 0 i f.0 (ap (λ l. slice_get l i) (sym zeros) ∙ f.1)).1 in
    let whole : w.0 ≡ c.more =
    sym (take_all m.0 w.0 (all i w.0 m.0 w.2 m.1)) ∙ c.are ∙ ap (λ j. take j w.0 ++ c.more) none in
    c.is ∙ ap (λ l. Some (handed_by_log l w.1)) (sym whole) ∙ ap Some w.4)

-- logs by which nothing is handed

silent-by : (more : List LogEntry) (p : Program) → All HandsNothing more → handed_by_log more p ≡ p
silent-by [] p silent = refl
silent-by (Did event ∷ more) p silent = silent-by more p (All-tail HandsNothing (Did event) more silent)
silent-by (Asked call ∷ more) p silent = absurd (All-head HandsNothing (Asked call) more silent)
silent-by (Answered answer ∷ more) p silent =
    silent-by more p (All-tail HandsNothing (Answered answer) more silent)
silent-by (Fetched page write ∷ more) p silent =
    absurd (All-head HandsNothing (Fetched page write) more silent)

behind : (xs more : List LogEntry) → All HandsNothing (xs ++ more) → All HandsNothing more
behind [] more silent = silent
behind (x ∷ xs) more silent = behind xs more (All-tail HandsNothing x (xs ++ more) silent)

-- some of its entries
silent-more : (log : List LogEntry) (m m' : ℕ) (more : List LogEntry) → All HandsNothing log
    → take m' log ≡ take m log ++ more → All HandsNothing more
silent-more log m m' more silent are =
    behind (take m log) more (subst (All HandsNothing) are (All-take HandsNothing m' log silent))

-- one of its entries
pub silent-here : (log : List LogEntry) (m : ℕ) (entry : LogEntry) → All HandsNothing log → m < length log
    → entry ≡ get_or log m entry → HandsNothing entry
silent-here log m entry silent below is =
    subst HandsNothing (sym is) (All-get_or HandsNothing log m entry below silent)

pub plays-none : (node : ℕ) (log : List LogEntry) (m m' : ℕ) (old new : List Program) → All HandsNothing log
    → length new ≡ length old → PlaysOn node log m m' old new → new ≡ old
plays-none node log m m' old new silent count on =
    same_lists new old count
    (λ i p at. elim (cases_eq i node) [
      | inl same ↦
          (ap (slice_get new) same ∙ on.handed.here p (ap (slice_get old) (sym same) ∙ at)
          ∙ ap Some (silent-by on.more p (silent-more log m m' on.more silent on.are)))
      | inr apart ↦ on.handed.elsewhere i apart ∙ at
    ])

pub have-none : (logs : List (List LogEntry)) (first made : List ℕ) (old new : List Program)
    → HandNothing logs → length first ≡ length logs → length made ≡ length logs
    → length old ≡ length logs → length new ≡ length old → HaveHanded logs first made old new → new ≡ old
have-none logs first made old new silent firsts mades olds news have =
    same_lists new old news
    (λ i p at.
    let inside = slice_get_within old i p at in
    let log = there_is logs i (omega (arith, inside, olds)) in
    let m = there_is first i (omega (arith, inside, olds, firsts)) in
    let k = there_is made i (omega (arith, inside, olds, mades)) in
    let c = have i log.0 m.0 k.0 p log.1 m.1 k.1 at in
    c.is ∙ ap Some (silent-by c.more p (silent-more log.0 m.0 k.0 c.more (silent i log.0 log.1) c.are)))

-- what is written down stays, and own code hands what its log says
written-by : (entry : LogEntry) (p : Program) → IsWritten p → handed_by entry p ≡ p
written-by (Did event) p written = refl
written-by (Asked call) (Written is) written = refl
written-by (Asked call) (Called rows fetches) written = absurd written
written-by (Answered answer) p written = refl
written-by (Fetched page write) (Written is) written = refl
written-by (Fetched page write) (Called rows fetches) written = absurd written

pub written-by-log : (log : List LogEntry) (p : Program) → IsWritten p → handed_by_log log p ≡ p
written-by-log [] p written = refl
written-by-log (e ∷ log) p written =
    ap (handed_by_log log) (written-by e p written) ∙ written-by-log log p written

pub written-by-logs : (logs : List (List LogEntry)) (programs : List Program) → All IsWritten programs
    → handed_by_logs logs programs ≡ programs
written-by-logs [] programs all = refl
written-by-logs (log ∷ logs) [] all = refl
written-by-logs (log ∷ logs) (p ∷ programs) all =
    ap (λ q. q ∷ handed_by_logs logs programs) (written-by-log log p (All-head IsWritten p programs all))
    ∙ ap (λ l. p ∷ l) (written-by-logs logs programs (All-tail IsWritten p programs all))

pub own-by-logs : (logs : List (List LogEntry)) → handed_by_logs logs (own_code (length logs)) ≡ programs_by logs
own-by-logs [] = refl
own-by-logs (log ∷ logs) = ap (λ l. program_by log ∷ l) (own-by-logs logs)

-- a log was made to its end
ended-at : {X E : Type 0} (f : X → List E) (logs : List X) (made : List ℕ) (i : ℕ) (x : X)
    → slice_get logs i ≡ Some x → length (f x) ≤ get_or made i 0 → (entries : List E) (m : ℕ)
    → slice_get (map f logs) i ≡ Some entries → slice_get made i ≡ Some m → length entries ≤ m
ended-at f logs made i x log enough entries m at now =
    let mine : entries ≡ f x =
    same_Some entries (f x) (sym at ∙ slice_get-map f logs i ∙ ap (option_map f) log) in
    let long = ap length mine in
    let many : get_or made i 0 ≡ m = get_or_from_slice_get made i m 0 now in
    omega (arith, long, many, enough)

-- one more was
pub ended-more : {X E : Type 0} (f : X → List E) (logs : List X) (made : List ℕ) (i : ℕ) (x : X)
    → slice_get logs i ≡ Some x → length (f x) ≤ get_or made i 0
    → ((j : ℕ) → j < i → (entries : List E) (m : ℕ) → slice_get (map f logs) j ≡ Some entries
    → slice_get made j ≡ Some m → length entries ≤ m) → (j : ℕ) → j < i + 1 → (entries : List E)
    (m : ℕ) → slice_get (map f logs) j ≡ Some entries → slice_get made j ≡ Some m → length entries ≤ m
ended-more {E = E} f logs made i x log enough before =
    below_more (λ j. (entries : List E) (m : ℕ) → slice_get (map f logs) j ≡ Some entries
    → slice_get made j ≡ Some m → length entries ≤ m) i before (ended-at f logs made i x log enough)

-- and so was each
pub ended-all : {X E : Type 0} (f : X → List E) (logs : List X) (made : List ℕ) (n : ℕ)
    → length logs ≤ n
    → ((j : ℕ) → j < n → (entries : List E) (m : ℕ) → slice_get (map f logs) j ≡ Some entries
    → slice_get made j ≡ Some m → length entries ≤ m) → (i : ℕ) (entries : List E) (m : ℕ)
    → slice_get (map f logs) i ≡ Some entries → slice_get made i ≡ Some m → length entries ≤ m
ended-all f logs made n all each i entries m at now =
    let inside = slice_get_within (map f logs) i entries at in
    let long = length-map logs f in each i (omega (arith, all, inside, long)) entries m at now
