-- A text is that of one log at most.
use Rattle.std.proofs.Common.{◌≡◌, ◌≢◌, ◌∙◌, ℕ, ◌+◌, ◌*◌, ◌<◌, ◌==◌, ◌⊎◌, inl, inr, Bool, true, false, List, [], ◌∷◌, ◌++◌, length, drop, get_or, slice_index, codes, refl, sym, ap, subst, arith, if◌then◌else◌, Option}
use Rattle.std.specs.List.{AllZip, after_first, before_first}
use Rattle.std.specs.Str.{NoCharPasses}
use Rattle.std.specs.Str.Lines.{lines}
use Rattle.std.proofs.Math.Seq.{get_or-append_seam}
use Rattle.std.proofs.lemmas.List.{length-append}
use Rattle.std.proofs.lemmas.Str.Pattern.{NoCharPasses-char}
use Rattle.hex.proofs.HexLemmas.{decode_of-same}
use Rattle.ivy_model.specs.declared.Call.{Call}
use Rattle.ivy_model.specs.declared.Call.TheVariants.{Load, Store, Swap, Cas, FetchAdd, Count, Advance, Await, Alloc, Free}
use Rattle.ivy_model.specs.declared.Config.{Config}
use Rattle.ivy_model.specs.declared.Kind.{Kind}
use Rattle.ivy_model.specs.declared.Kind.TheVariants.{Fixed, Dynamic}
use Rattle.ivy_model.specs.declared.Reply.{Reply}
use Rattle.ivy_model.specs.declared.Reply.TheVariants.{Value, Done, Refused}
use Rattle.ivy_moves.specs.Events.{Event}
use Rattle.ivy_moves.specs.declared.Event.TheVariants.{Turns, Delivered, Pulsed}
use Rattle.ivy_program.specs.texts.Lines.{IsNumberWord}
use Rattle.ivy_program.specs.texts.TextWords.{words_of}
use Rattle.ivy_texts.specs.Spelled.{BeginsWith, Names, SpellsCall, worded}
use Rattle.ivy_logs.specs.declared.log.LogEntry.TheVariants.{Did, Asked, Answered, Fetched}
use Rattle.ivy_logs.specs.declared.log.LogHead.{LogHead}
use Rattle.ivy_logs.specs.declared.log.LogKind.{LogKind}
use Rattle.ivy_logs.specs.declared.log.LogKind.TheVariants.{OfProgram, OfOwnCode}
use Rattle.ivy_logs.specs.Entries.{LogEntry, Numbered, SpellsAnswered, SpellsEntry, SpellsIn}
use Rattle.ivy_logs.specs.Spelled.{HasWholeLines, fetch_word, IsHexOf, IsManagerWord, SpellsConfig, SpellsEvent, SpellsHead, SpellsNode, is_end, kind_word, log_word}
use Rattle.ivy_logs.specs.ReadBack.{LogsSpellOne, numbers_of}
use Rattle.ivy_logs.proofs.ReadBack.{keyword_of}

number-once : (word : List ℕ) (m n : ℕ) → IsNumberWord word m → IsNumberWord word n → m ≡ n
number-once word m n a b = sym a.1 ∙ b.1

zip-once : {X : Type 0} (S : List (List ℕ) → X → Type 0)
    → ((words : List (List ℕ)) (a b : X) → S words a → S words b → a ≡ b)
    → (texts : List (List (List ℕ))) (xs ys : List X) → AllZip S texts xs → AllZip S texts ys → xs ≡ ys
zip-once S once [] [] [] a b = refl
zip-once S once [] [] (y ∷ ys) a b = absurd b
zip-once S once [] (x ∷ xs) ys a b = absurd a
zip-once S once (t ∷ ts) [] bs a b = absurd a
zip-once S once (t ∷ ts) (x ∷ xs) [] a b = absurd b
zip-once S once (t ∷ ts) (x ∷ xs) (y ∷ ys) a b =
    ap (λ z. z ∷ xs) (once t x y a.0 b.0) ∙ ap (λ l. y ∷ l) (zip-once S once ts xs ys a.1 b.1)

numbers-once : (words : List (List ℕ)) (ms ns : List ℕ) → AllZip IsNumberWord words ms
    → AllZip IsNumberWord words ns → ms ≡ ns
numbers-once [] [] [] a b = refl
numbers-once [] [] (n ∷ ns) a b = absurd b
numbers-once [] (m ∷ ms) ns a b = absurd a
numbers-once (w ∷ ws) [] ns a b = absurd a
numbers-once (w ∷ ws) (m ∷ ms) [] a b = absurd b
numbers-once (w ∷ ws) (m ∷ ms) (n ∷ ns) a b =
    ap (λ z. z ∷ ms) (number-once w m n a.0 b.0) ∙ ap (λ l. n ∷ l) (numbers-once ws ms ns a.1 b.1)

-- a call, by its word and its numbers
named : (words : List (List ℕ)) (c : Call) → SpellsCall words c → Names (keyword_of c) (numbers_of c) words
named words (Load width addr) s = s
named words (Store width addr value) s = s
named words (Swap width addr value) s = s
named words (Cas width addr expected value) s = s
named words (FetchAdd width addr value) s = s
named words (Count k) s = s
named words (Advance k) s = s
named words (Await k least) s = s
named words (Alloc size) s = s
named words (Free addr) s = s

-- the first two letters of a word tell which call it is
abbrev letters_of : List ℕ → ℕ
letters_of word = slice_index word 0 * 256 + slice_index word 1

abbrev call_by : ℕ → List ℕ → Call
call_by letters ns =
    if letters == 27759 then Load (slice_index ns 0) (slice_index ns 1)
    else if letters == 29556 then Store (slice_index ns 0) (slice_index ns 1) (slice_index ns 2)
    else if letters == 29559 then Swap (slice_index ns 0) (slice_index ns 1) (slice_index ns 2)
    else if letters == 25441
    then Cas (slice_index ns 0) (slice_index ns 1) (slice_index ns 2) (slice_index ns 3)
    else if letters == 26209 then FetchAdd (slice_index ns 0) (slice_index ns 1) (slice_index ns 2)
    else if letters == 25455 then Count (slice_index ns 0)
    else if letters == 24932 then Advance (slice_index ns 0)
    else if letters == 24951 then Await (slice_index ns 0) (slice_index ns 1)
    else if letters == 24940 then Alloc (slice_index ns 0)
    else Free (slice_index ns 0)

made-again : (c : Call) → call_by (letters_of (keyword_of c)) (numbers_of c) ≡ c
made-again (Load width addr) = refl
made-again (Store width addr value) = refl
made-again (Swap width addr value) = refl
made-again (Cas width addr expected value) = refl
made-again (FetchAdd width addr value) = refl
made-again (Count k) = refl
made-again (Advance k) = refl
made-again (Await k least) = refl
made-again (Alloc size) = refl
made-again (Free addr) = refl

names-once : (words : List (List ℕ)) (k k' : List ℕ) (ms ns : List ℕ) → Names k ms words → Names k' ns words
    → (k ≡ k') × (ms ≡ ns)
names-once [] k k' ms ns a b = absurd a
names-once (w ∷ ws) k k' ms ns a b = (sym a.0 ∙ b.0, numbers-once ws ms ns a.1 b.1)

pub call-once : (words : List (List ℕ)) (c d : Call) → SpellsCall words c → SpellsCall words d → c ≡ d
call-once words c d a b =
    let same = names-once words (keyword_of c) (keyword_of d) (numbers_of c) (numbers_of d) (named words c a)
    (named words d b) in
    sym (made-again c)
    ∙ ap (λ k. call_by (letters_of k) (numbers_of c)) same.0
    ∙ ap (λ ns. call_by (letters_of (keyword_of d)) ns) same.1
    ∙ made-again d

-- the first letter of the words of an entry
abbrev FirstIs : List (List ℕ) → ℕ → Type 0
FirstIs [] letter = ⊥
FirstIs (word ∷ words) letter = slice_index word 0 ≡ letter

two-letters : {A : Type 0} (words : List (List ℕ)) (x y : ℕ) → (x ≡ y → ⊥) → FirstIs words x → FirstIs words y → A
two-letters [] x y other a b = absurd a
two-letters (w ∷ ws) x y other a b = absurd (other (sym a ∙ b))

begins-first : (keyword : List ℕ) (P : List (List ℕ) → Type 0) (words : List (List ℕ))
    → BeginsWith keyword P words → FirstIs words (slice_index keyword 0)
begins-first keyword P [] s = absurd s
begins-first keyword P (w ∷ ws) s = ap (λ l. slice_index l 0) s.0

-- what stands after a word
module _ {X : Type 0} (S : X → List (List ℕ) → Type 0)
    (once : (words : List (List ℕ)) (a b : X) → S a words → S b words → a ≡ b) where
  after-once : (keyword : List ℕ) (words : List (List ℕ)) (a b : X) → BeginsWith keyword (S a) words
      → BeginsWith keyword (S b) words → a ≡ b
  after-once keyword [] a b s t = absurd s
  after-once keyword (w ∷ ws) a b s t = once ws a b s.1 t.1

one-number : (words : List (List ℕ)) (m n : ℕ) → AllZip IsNumberWord words (m ∷ [])
    → AllZip IsNumberWord words (n ∷ []) → m ≡ n
one-number words m n a b = ap (λ l. slice_index l 0) (numbers-once words (m ∷ []) (n ∷ []) a b)

one-string : (words : List (List ℕ)) (a b : List ℕ) → AllZip IsHexOf words (a ∷ []) → AllZip IsHexOf words (b ∷ [])
    → a ≡ b
one-string [] a b s t = absurd s
one-string (w ∷ ws) a b s t = decode_of-same w a b s.0 t.0

-- two words with other letters in a place
differ : {A : Type 0} (v w : List ℕ) (i x y : ℕ) → v ≡ w → slice_index v i ≡ x → slice_index w i ≡ y
    → (x ≡ y → ⊥) → A
differ v w i x y same is other apart = absurd (apart (sym is ∙ ap (λ l. slice_index l i) same ∙ other))

event-once : (words : List (List ℕ)) (d e : Event) → SpellsEvent words d → SpellsEvent words e → d ≡ e
event-once words (Turns m) (Turns n) a b =
    ap Turns (after-once (λ k ws. AllZip IsNumberWord ws (k ∷ [])) one-number (codes "turns") words m n a b)
event-once words (Pulsed m) (Pulsed n) a b =
    ap Pulsed (after-once (λ k ws. AllZip IsNumberWord ws (k ∷ [])) one-number (codes "pulse") words m n a b)
event-once words (Delivered x) (Delivered y) a b =
    ap Delivered (after-once (λ k ws. AllZip IsHexOf ws (k ∷ [])) one-string (codes "took") words x y a b)
event-once [] (Turns m) (Delivered y) a b = absurd a
event-once (w ∷ ws) (Turns m) (Delivered y) a b =
    differ (codes "turns") (codes "took") 1 117 111 (sym a.0 ∙ b.0) refl refl
    (λ s. omega (arith, s))
event-once [] (Delivered x) (Turns n) a b = absurd a
event-once (w ∷ ws) (Delivered x) (Turns n) a b =
    differ (codes "took") (codes "turns") 1 111 117 (sym a.0 ∙ b.0) refl refl
    (λ s. omega (arith, s))
event-once [] (Turns m) (Pulsed n) a b = absurd a
event-once (w ∷ ws) (Turns m) (Pulsed n) a b =
    differ (codes "turns") (codes "pulse") 0 116 112 (sym a.0 ∙ b.0) refl refl
    (λ s. omega (arith, s))
event-once [] (Pulsed m) (Turns n) a b = absurd a
event-once (w ∷ ws) (Pulsed m) (Turns n) a b =
    differ (codes "pulse") (codes "turns") 0 112 116 (sym a.0 ∙ b.0) refl refl
    (λ s. omega (arith, s))
event-once [] (Pulsed m) (Delivered y) a b = absurd a
event-once (w ∷ ws) (Pulsed m) (Delivered y) a b =
    differ (codes "pulse") (codes "took") 0 112 116 (sym a.0 ∙ b.0) refl refl
    (λ s. omega (arith, s))
event-once [] (Delivered x) (Pulsed n) a b = absurd a
event-once (w ∷ ws) (Delivered x) (Pulsed n) a b =
    differ (codes "took") (codes "pulse") 0 116 112 (sym a.0 ∙ b.0) refl refl
    (λ s. omega (arith, s))

-- a number, and then a call
record Valued : Type 0 where
  number : ℕ
  call : Call

abbrev SpellsValued : Valued → List (List ℕ) → Type 0
SpellsValued v words = Numbered v.number (λ rest. SpellsCall rest v.call) words

valued-once : (words : List (List ℕ)) (a b : Valued) → SpellsValued a words → SpellsValued b words → a ≡ b
valued-once [] a b s t = absurd s
valued-once (w ∷ ws) a b s t =
    ap (λ n. record { number = n; call = a.call }) (number-once w a.number b.number s.0 t.0)
    ∙ ap (λ c. record { number = b.number; call = c }) (call-once ws a.call b.call s.1 t.1)

answered-once : (words : List (List ℕ)) (c d : Call) (r s : Reply) → SpellsAnswered words c r
    → SpellsAnswered words d s → (c ≡ d) × (r ≡ s)
answered-once words c d (Value m) (Value n) a b =
    let x : Valued = record { number = m; call = c } in let y : Valued = record { number = n; call = d } in
    let same : x ≡ y = after-once SpellsValued valued-once (codes "value") words x y a b in
    (ap (λ (v : Valued). v.call) same, ap (λ (v : Valued). Value v.number) same)
answered-once words c d (Refused m) (Refused n) a b =
    let x : Valued = record { number = m; call = c } in let y : Valued = record { number = n; call = d } in
    let same : x ≡ y = after-once SpellsValued valued-once (codes "refused") words x y a b in
    (ap (λ (v : Valued). v.call) same, ap (λ (v : Valued). Refused v.number) same)
answered-once words c d Done Done a b =
    (after-once (λ k ws. SpellsCall ws k) call-once (codes "done") words c d a b, refl)
answered-once [] c d (Value m) Done a b = absurd a
answered-once (w ∷ ws) c d (Value m) Done a b =
    differ (codes "value") (codes "done") 0 118 100 (sym a.0 ∙ b.0) refl refl
    (λ s. omega (arith, s))
answered-once [] c d Done (Value n) a b = absurd a
answered-once (w ∷ ws) c d Done (Value n) a b =
    differ (codes "done") (codes "value") 0 100 118 (sym a.0 ∙ b.0) refl refl
    (λ s. omega (arith, s))
answered-once [] c d (Value m) (Refused n) a b = absurd a
answered-once (w ∷ ws) c d (Value m) (Refused n) a b =
    differ (codes "value") (codes "refused") 0 118 114 (sym a.0 ∙ b.0) refl refl
    (λ s. omega (arith, s))
answered-once [] c d (Refused m) (Value n) a b = absurd a
answered-once (w ∷ ws) c d (Refused m) (Value n) a b =
    differ (codes "refused") (codes "value") 0 114 118 (sym a.0 ∙ b.0) refl refl
    (λ s. omega (arith, s))
answered-once [] c d (Refused m) Done a b = absurd a
answered-once (w ∷ ws) c d (Refused m) Done a b =
    differ (codes "refused") (codes "done") 0 114 100 (sym a.0 ∙ b.0) refl refl
    (λ s. omega (arith, s))
answered-once [] c d Done (Refused n) a b = absurd a
answered-once (w ∷ ws) c d Done (Refused n) a b =
    differ (codes "done") (codes "refused") 0 100 114 (sym a.0 ∙ b.0) refl refl
    (λ s. omega (arith, s))

-- the words of an event, of a call and of an answer begin by other letters
abbrev BeginsBy : List (List ℕ) → ℕ → ℕ → ℕ → Type 0
BeginsBy words a b c = FirstIs words a ⊎ (FirstIs words b ⊎ FirstIs words c)

event-letter : (words : List (List ℕ)) (e : Event) → SpellsEvent words e → BeginsBy words 116 116 112
event-letter words (Turns n) s =
    inl (begins-first (codes "turns") (λ ws. AllZip IsNumberWord ws (n ∷ [])) words s)
event-letter words (Delivered bytes) s =
    inr (inl (begins-first (codes "took") (λ ws. AllZip IsHexOf ws (bytes ∷ [])) words s))
event-letter words (Pulsed n) s =
    inr (inr (begins-first (codes "pulse") (λ ws. AllZip IsNumberWord ws (n ∷ [])) words s))

answer-letter : (words : List (List ℕ)) (c : Call) (r : Reply) → SpellsAnswered words c r
    → BeginsBy words 118 100 114
answer-letter words c (Value n) s =
    inl (begins-first (codes "value") (Numbered n (λ rest. SpellsCall rest c)) words s)
answer-letter words c Done s = inr (inl (begins-first (codes "done") (λ rest. SpellsCall rest c) words s))
answer-letter words c (Refused n) s =
    inr (inr (begins-first (codes "refused") (Numbered n (λ rest. SpellsCall rest c)) words s))

apart : {A : Type 0} (words : List (List ℕ)) (a b c x : ℕ) → (a ≡ x → ⊥) → (b ≡ x → ⊥) → (c ≡ x → ⊥)
    → BeginsBy words a b c → FirstIs words x → A
apart words a b c x na nb nc (inl s) t = two-letters words a x na s t
apart words a b c x na nb nc (inr (inl s)) t = two-letters words b x nb s t
apart words a b c x na nb nc (inr (inr s)) t = two-letters words c x nc s t

all-apart : {A : Type 0} (words : List (List ℕ)) → BeginsBy words 116 116 112 → BeginsBy words 118 100 114 → A
all-apart words e (inl t) =
    apart words 116 116 112 118 (λ s. omega (arith, s)) (λ s. omega (arith, s)) (λ s. omega (arith, s)) e t
all-apart words e (inr (inl t)) =
    apart words 116 116 112 100 (λ s. omega (arith, s)) (λ s. omega (arith, s)) (λ s. omega (arith, s)) e t
all-apart words e (inr (inr t)) =
    apart words 116 116 112 114 (λ s. omega (arith, s)) (λ s. omega (arith, s)) (λ s. omega (arith, s)) e t

call-letter : (words : List (List ℕ)) (c : Call) → BeginsWith (codes "call") (λ rest. SpellsCall rest c) words
    → FirstIs words 99
call-letter words c s = begins-first (codes "call") (λ rest. SpellsCall rest c) words s

-- a page that is fetched ahead, to read or to write
record Page : Type 0 where
  number : ℕ
  write : Bool

abbrev SpellsPage : Page → List (List ℕ) → Type 0
SpellsPage p words = Names (fetch_word p.write) (p.number ∷ []) words

access-once : (a b : Bool) → fetch_word a ≡ fetch_word b → a ≡ b
access-once false false same = refl
access-once true true same = refl
access-once false true same =
    differ (codes "read") (codes "write") 0 114 119 same refl refl (λ s. omega (arith, s))
access-once true false same =
    differ (codes "write") (codes "read") 0 119 114 same refl refl (λ s. omega (arith, s))

page-once : (words : List (List ℕ)) (a b : Page) → SpellsPage a words → SpellsPage b words → a ≡ b
page-once words a b s t =
    let same = names-once words (fetch_word a.write) (fetch_word b.write) (a.number ∷ []) (b.number ∷ []) s t in
    ap (λ n. record { number = n; write = a.write }) (ap (λ l. slice_index l 0) same.1)
    ∙ ap (λ w. record { number = b.number; write = w }) (access-once a.write b.write same.0)

fetch-letter : (words : List (List ℕ)) (page : ℕ) (write : Bool)
    → BeginsWith (codes "fetch") (Names (fetch_word write) (page ∷ [])) words → FirstIs words 102
fetch-letter words page write s = begins-first (codes "fetch") (Names (fetch_word write) (page ∷ [])) words s

entry-once : (words : List (List ℕ)) (d e : LogEntry) → SpellsEntry words d → SpellsEntry words e → d ≡ e
entry-once words (Did x) (Did y) a b = ap Did (event-once words x y a b)
entry-once words (Asked c) (Asked d) a b =
    ap Asked (after-once (λ k ws. SpellsCall ws k) call-once (codes "call") words c d a b)
entry-once words (Answered x) (Answered y) a b =
    let same = answered-once words x.call y.call x.reply y.reply a b in
    ap (λ c. Answered (record { call = c; reply = x.reply })) same.0
    ∙ ap (λ r. Answered (record { call = y.call; reply = r })) same.1
entry-once words (Did x) (Asked d) a b =
    apart words 116 116 112 99 (λ s. omega (arith, s)) (λ s. omega (arith, s)) (λ s. omega (arith, s))
    (event-letter words x a) (call-letter words d b)
entry-once words (Asked c) (Did y) a b =
    apart words 116 116 112 99 (λ s. omega (arith, s)) (λ s. omega (arith, s)) (λ s. omega (arith, s))
    (event-letter words y b) (call-letter words c a)
entry-once words (Answered x) (Asked d) a b =
    apart words 118 100 114 99 (λ s. omega (arith, s)) (λ s. omega (arith, s)) (λ s. omega (arith, s))
    (answer-letter words x.call x.reply a) (call-letter words d b)
entry-once words (Asked c) (Answered y) a b =
    apart words 118 100 114 99 (λ s. omega (arith, s)) (λ s. omega (arith, s)) (λ s. omega (arith, s))
    (answer-letter words y.call y.reply b) (call-letter words c a)
entry-once words (Did x) (Answered y) a b =
    all-apart words (event-letter words x a) (answer-letter words y.call y.reply b)
entry-once words (Answered x) (Did y) a b =
    all-apart words (event-letter words y b) (answer-letter words x.call x.reply a)
entry-once words (Fetched m v) (Fetched n w) a b =
    let x : Page = record { number = m; write = v } in let y : Page = record { number = n; write = w } in
    ap (λ (p : Page). Fetched p.number p.write) (after-once SpellsPage page-once (codes "fetch") words x y a b)
entry-once words (Fetched n w) (Did y) a b =
    apart words 116 116 112 102 (λ s. omega (arith, s)) (λ s. omega (arith, s)) (λ s. omega (arith, s))
    (event-letter words y b) (fetch-letter words n w a)
entry-once words (Did x) (Fetched n w) a b =
    apart words 116 116 112 102 (λ s. omega (arith, s)) (λ s. omega (arith, s)) (λ s. omega (arith, s))
    (event-letter words x a) (fetch-letter words n w b)
entry-once words (Fetched n w) (Answered y) a b =
    apart words 118 100 114 102 (λ s. omega (arith, s)) (λ s. omega (arith, s)) (λ s. omega (arith, s))
    (answer-letter words y.call y.reply b) (fetch-letter words n w a)
entry-once words (Answered x) (Fetched n w) a b =
    apart words 118 100 114 102 (λ s. omega (arith, s)) (λ s. omega (arith, s)) (λ s. omega (arith, s))
    (answer-letter words x.call x.reply a) (fetch-letter words n w b)
entry-once words (Fetched n w) (Asked d) a b =
    two-letters words 99 102 (λ s. omega (arith, s)) (call-letter words d b) (fetch-letter words n w a)
entry-once words (Asked c) (Fetched n w) a b =
    two-letters words 99 102 (λ s. omega (arith, s)) (call-letter words c a) (fetch-letter words n w b)

in-once : (kind : LogKind) (words : List (List ℕ)) (d e : LogEntry) → SpellsIn kind words d → SpellsIn kind words e
    → d ≡ e
in-once OfOwnCode words d e a b = entry-once words d e a b
in-once OfProgram words (Did x) (Did y) a b = ap Did (event-once words x y a b)
in-once OfProgram words (Did x) (Asked d) a b = absurd b
in-once OfProgram words (Did x) (Answered y) a b = absurd b
in-once OfProgram words (Did x) (Fetched n w) a b = absurd b
in-once OfProgram words (Asked c) e a b = absurd a
in-once OfProgram words (Answered x) e a b = absurd a
in-once OfProgram words (Fetched n w) e a b = absurd a

-- the first line
kind-once : (word : List ℕ) (k l : Kind) → word ≡ kind_word k → word ≡ kind_word l → k ≡ l
kind-once word Fixed Fixed a b = refl
kind-once word Dynamic Dynamic a b = refl
kind-once word Fixed Dynamic a b =
    differ (codes "fixed") (codes "dynamic") 0 102 100 (sym a ∙ b) refl refl
    (λ s. omega (arith, s))
kind-once word Dynamic Fixed a b =
    differ (codes "dynamic") (codes "fixed") 0 100 102 (sym a ∙ b) refl refl
    (λ s. omega (arith, s))

steady-apart : (word : List ℕ) (k : Kind) → word ≡ codes "steady" → word ≡ kind_word k → ⊥
steady-apart word Fixed a b =
    differ (codes "steady") (codes "fixed") 0 115 102 (sym a ∙ b) refl refl (λ s. omega (arith, s))
steady-apart word Dynamic a b =
    differ (codes "steady") (codes "dynamic") 0 115 100 (sym a ∙ b) refl refl
    (λ s. omega (arith, s))

manager-once : (word : List ℕ) (s t : Bool) (k l : Kind) → IsManagerWord word s k
    → IsManagerWord word t l → (s ≡ t) × (k ≡ l)
manager-once word false false k l a b = (refl, kind-once word k l a.0 b.0)
manager-once word true true k l a b = (refl, a.1 ∙ sym b.1)
manager-once word true false k l a b = absurd (steady-apart word l a.0 b.0)
manager-once word false true k l a b = absurd (steady-apart word k b.0 a.0)

config-once : (w x y z : List ℕ) (d e : Bool) (b c : Config) → SpellsConfig w x y z d b
    → SpellsConfig w x y z e c → (d ≡ e) × (b ≡ c)
config-once w x y z d e b c s t =
    let made : ℕ → ℕ → ℕ → Kind → Config = λ n p s k.
    record { nodes = n; pages = p; page_size = s; manager = k } in
    let named = manager-once z d e b.manager c.manager s.3 t.3 in (
      named.0,
      ap (λ n. made n b.pages b.page_size b.manager) (number-once w b.nodes c.nodes s.0 t.0)
          ∙ ap (λ p. made c.nodes p b.page_size b.manager) (number-once x b.pages c.pages s.1 t.1)
          ∙ ap (λ s. made c.nodes c.pages s b.manager) (number-once y b.page_size c.page_size s.2 t.2)
          ∙ ap (λ k. made c.nodes c.pages c.page_size k) named.1,
    )

-- what a first line says, and its sum
record First : Type 0 where
  head : LogHead
  sum : Option ℕ

abbrev SpellsNodeFirst : First → List (List ℕ) → Type 0
SpellsNodeFirst f words = SpellsNode words f.head f.sum

node-once : (words : List (List ℕ)) (f f' : First) → SpellsNodeFirst f words → SpellsNodeFirst f' words
    → f.head ≡ f'.head
node-once [] f f' a b = absurd a
node-once (v ∷ []) f f' a b = absurd a
node-once (v ∷ w ∷ []) f f' a b = absurd a
node-once (v ∷ w ∷ x ∷ []) f f' a b = absurd a
node-once (v ∷ w ∷ x ∷ y ∷ []) f f' a b = absurd a
node-once (v ∷ w ∷ x ∷ y ∷ z ∷ rest) f f' a b =
    let made : ℕ → Config → Bool → LogHead = λ i c s. record { me = i; config = c; steady = s } in
    let same = config-once w x y z f.head.steady f'.head.steady f.head.config f'.head.config a.1 b.1 in
    ap (λ i. made i f.head.config f.head.steady) (number-once v f.head.me f'.head.me a.0 b.0)
    ∙ ap (λ c. made f'.head.me c f.head.steady) same.1
    ∙ ap (λ s. made f'.head.me f'.head.config s) same.0

-- what stands after a word, of which the head is told
head-after : (keyword : List ℕ) (P : First → List (List ℕ) → Type 0)
    → ((words : List (List ℕ)) (f f' : First) → P f words → P f' words → f.head ≡ f'.head)
    → (words : List (List ℕ)) (f f' : First) → BeginsWith keyword (P f) words → BeginsWith keyword (P f') words
    → f.head ≡ f'.head
head-after keyword P once [] f f' a b = absurd a
head-after keyword P once (w ∷ ws) f f' a b = once ws f f' a.1 b.1

head-once : (kind : LogKind) (words : List (List ℕ)) (g h : LogHead) → SpellsHead kind words g
    → SpellsHead kind words h → g ≡ h
head-once kind words g h a b =
    let f : First = record { head = g; sum = a.0 } in let f' : First = record { head = h; sum = b.0 } in
    head-after (codes "ivy") (λ k ws. BeginsWith (log_word kind) (SpellsNodeFirst k) ws)
    (head-after (log_word kind) SpellsNodeFirst node-once) words f f' a.1.1 b.1.1

-- the whole lines
abbrev HasNoEnd : List ℕ → Type 0
HasNoEnd bytes = (i : ℕ) → i < length bytes → get_or bytes i 0 ≢ 10

no-end-in : (bytes : List ℕ) → NoCharPasses is_end bytes → HasNoEnd bytes
no-end-in bytes none i within = NoCharPasses-char 10 bytes i none (omega arith) within

has-end : {A : Type 0} (bytes front back : List ℕ) → bytes ≡ front ++ 10 ∷ back → HasNoEnd bytes → A
has-end bytes front back is none =
    let long = ap length is in let parts = length-append front (10 ∷ back) in
    absurd (none (length front) (omega (arith, long, parts))
    (ap (λ l. get_or l (length front) 0) is ∙ get_or-append_seam front 10 back 0))

last-once : (a t b u : List ℕ) → a ++ 10 ∷ t ≡ b ++ 10 ∷ u → HasNoEnd t → HasNoEnd u → a ≡ b
last-once [] t [] u same no-t no-u = refl
last-once [] t (y ∷ b) u same no-t no-u = has-end t b u (ap (drop 1) same) no-t
last-once (x ∷ a) t [] u same no-t no-u = has-end u a t (sym (ap (drop 1) same)) no-u
last-once (x ∷ a) t (y ∷ b) u same no-t no-u =
    ap (λ z. z ∷ a) (ap (λ l. get_or l 0 0) same)
    ∙ ap (λ l. y ∷ l) (last-once a t b u (ap (drop 1) same) no-t no-u)

whole-once : (text v w : List ℕ) → HasWholeLines text v → HasWholeLines text w → v ≡ w
whole-once text v w (inl a) (inl b) =
    last-once v a.0 w b.0 (sym a.1 ∙ b.1) (no-end-in a.0 a.2) (no-end-in b.0 b.2)
whole-once text v w (inl a) (inr b) = has-end text v a.0 a.1 (no-end-in text b.1)
whole-once text v w (inr a) (inl b) = has-end text w b.0 b.1 (no-end-in text a.1)
whole-once text v w (inr a) (inr b) = a.0 ∙ sym b.0

pub logs-spell-one : LogsSpellOne
logs-spell-one kind text g h ds es a b = (
  head-once kind (words_of (before_first is_end text)) g h a.first b.first,
  zip-once (SpellsIn kind) (in-once kind) (worded (lines a.whole)) ds es a.each
      (subst (λ w. AllZip (SpellsIn kind) (worded (lines w)) es)
      (sym (whole-once (after_first is_end text) a.whole b.whole a.cut b.cut)) b.each),
)
