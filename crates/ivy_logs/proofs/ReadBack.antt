-- What is written of a log is read as that log.
use Rattle.std.proofs.Common.{◌≡◌, ◌∙◌, ℕ, Bool, true, false, ◌<◌, ◌^◌, List, [], ◌∷◌, ◌++◌, All, length, map, codes, decimal, refl, sym, ap, subst, arith, append_assoc, inl, inr, Ok, IfSome, Option, Some, None}
use Rattle.std.specs.List.{AllZip}
use Rattle.std.specs.Str.Lines.{lines}
use Rattle.std.proofs.lemmas.Fmt.{decimal_is_IsNumeral, decimal_nonempty, length-decimal-le}
use Rattle.std.proofs.lemmas.List.Elements.{All-cons, All-head, All-nil, All-tail}
use Rattle.std.proofs.lemmas.Str.{NoCharPasses-nil}
use Rattle.hex.specs.Hex.{decode_of, encode_lower, lower_digits}
use Rattle.hex.proofs.HexLemmas.{decode_of-encode_lower, decode_of-ok, length-encode_with}
use Rattle.ivy_model.specs.declared.Call.{Call}
use Rattle.ivy_model.specs.declared.Call.TheVariants.{Load, Store, Swap, Cas, FetchAdd, Count, Advance, Await, Alloc, Free}
use Rattle.ivy_model.specs.declared.Kind.{Kind}
use Rattle.ivy_model.specs.declared.Kind.TheVariants.{Fixed, Dynamic}
use Rattle.ivy_model.specs.declared.Reply.{Reply}
use Rattle.ivy_model.specs.declared.Reply.TheVariants.{Value, Done, Refused}
use Rattle.ivy_moves.specs.declared.Event.TheVariants.{Turns, Delivered, Pulsed}
use Rattle.ivy_program.specs.texts.Lines.{IsNumberWord}
use Rattle.ivy_program.specs.texts.TextWords.{words_of}
use Rattle.ivy_texts.specs.Printed.{call_text, reply_text, then_number}
use Rattle.ivy_texts.specs.Spelled.{SpellsCall, worded}
use Rattle.ivy_logs.specs.declared.log.LogEntry.TheVariants.{Did, Asked, Answered, Fetched}
use Rattle.ivy_logs.specs.declared.log.LogHead.{LogHead}
use Rattle.ivy_logs.specs.declared.log.LogKind.{LogKind}
use Rattle.ivy_logs.specs.declared.log.LogKind.TheVariants.{OfProgram, OfOwnCode}
use Rattle.ivy_logs.specs.Entries.{HasSum, LogEntry, SpellsEntry, SpellsIn, SpellsLog, entry_line, entry_lines}
use Rattle.ivy_logs.specs.Printed.{first_line, sum_end}
use Rattle.ivy_logs.specs.Spelled.{HasWholeLines, SpellsFirst, SpellsSum, is_end, log_word, manager_word}
use Rattle.ivy_logs.specs.ReadBack.{FitsEntry, FitsHead, FitsIn, IsWide, IsWideReply, LogsReadBack, numbers_of}
use Rattle.ivy_logs.proofs.Frames.{digits_large, number_large}
use Rattle.ivy_logs.proofs.Written.{IsWord, Line, after-end, before-end, joined_text, joined-whole, line_text, line_words, lines_text, literal, no-end, spaced, worded-joined, words-spaced}

-- words before something
abbrev spaced_to : List ℕ → List (List ℕ) → List ℕ → List ℕ
spaced_to word [] rest = word ++ rest
spaced_to word (next ∷ more) rest = word ++ 32 ∷ spaced_to next more rest

spaced-to : (word : List ℕ) (more : List (List ℕ)) (rest : List ℕ)
    → spaced word more ++ rest ≡ spaced_to word more rest
spaced-to word [] rest = refl
spaced-to word (next ∷ more) rest =
    append_assoc word (32 ∷ spaced next more) rest ∙ ap (λ t. word ++ 32 ∷ t) (spaced-to next more rest)

number-word : (n : ℕ) → IsWide n → IsNumberWord (decimal n) n
number-word n wide = (
  record {
    digits = (decimal_is_IsNumeral n wide).0;
    short = length-decimal-le 20 n (omega arith) (omega (arith, wide)) wide;
    fits = subst (λ m. m < 2 ^ 64) (sym (decimal_is_IsNumeral n wide).1) wide;
  },
  (decimal_is_IsNumeral n wide).1,
)

is-number : (n : ℕ) → IsWide n → IsWord (decimal n)
is-number n wide = (decimal_nonempty n wide, number_large (decimal n) (decimal_is_IsNumeral n wide).0.1)

numbers-words : (ns : List ℕ) → All IsWide ns → AllZip IsNumberWord (map decimal ns) ns
numbers-words [] all = tt
numbers-words (n ∷ ns) all =
    (number-word n (All-head IsWide n ns all), numbers-words ns (All-tail IsWide n ns all))

are-numbers : (ns : List ℕ) → All IsWide ns → All IsWord (map decimal ns)
are-numbers [] all = All-nil IsWord
are-numbers (n ∷ ns) all =
    All-cons IsWord (decimal n) (map decimal ns) (is-number n (All-head IsWide n ns all))
    (are-numbers ns (All-tail IsWide n ns all))

-- a call
abbrev pub keyword_of : Call → List ℕ
keyword_of (Load width addr) = codes "load"
keyword_of (Store width addr value) = codes "store"
keyword_of (Swap width addr value) = codes "swap"
keyword_of (Cas width addr expected value) = codes "cas"
keyword_of (FetchAdd width addr value) = codes "fadd"
keyword_of (Count k) = codes "count"
keyword_of (Advance k) = codes "advance"
keyword_of (Await k least) = codes "await"
keyword_of (Alloc size) = codes "alloc"
keyword_of (Free addr) = codes "free"

is-keyword : (c : Call) → IsWord (keyword_of c)
is-keyword (Load width addr) = literal (codes "load") refl (omega arith)
is-keyword (Store width addr value) = literal (codes "store") refl (omega arith)
is-keyword (Swap width addr value) = literal (codes "swap") refl (omega arith)
is-keyword (Cas width addr expected value) = literal (codes "cas") refl (omega arith)
is-keyword (FetchAdd width addr value) = literal (codes "fadd") refl (omega arith)
is-keyword (Count k) = literal (codes "count") refl (omega arith)
is-keyword (Advance k) = literal (codes "advance") refl (omega arith)
is-keyword (Await k least) = literal (codes "await") refl (omega arith)
is-keyword (Alloc size) = literal (codes "alloc") refl (omega arith)
is-keyword (Free addr) = literal (codes "free") refl (omega arith)

-- one word more
spaced-more : (word : List ℕ) (more : List (List ℕ)) (last : List ℕ)
    → spaced word more ++ 32 ∷ last ≡ spaced word (more ++ last ∷ [])
spaced-more word [] last = refl
spaced-more word (next ∷ more) last =
    append_assoc word (32 ∷ spaced next more) (32 ∷ last)
    ∙ ap (λ t. word ++ 32 ∷ t) (spaced-more next more last)

third : (word : List ℕ) (l m n : ℕ)
    → ((word ++ then_number l) ++ then_number m) ++ then_number n
    ≡ spaced word (decimal l ∷ decimal m ∷ decimal n ∷ [])
third word l m n =
    ap (λ t. t ++ then_number n) (append_assoc word (then_number l) (then_number m))
    ∙ spaced-more word (decimal l ∷ decimal m ∷ []) (decimal n)

call-text : (c : Call) → call_text c ≡ spaced (keyword_of c) (map decimal (numbers_of c))
call-text (Load width addr) = refl
call-text (Store width addr value) = third (codes "store") width addr value
call-text (Swap width addr value) = third (codes "swap") width addr value
call-text (Cas width addr expected value) =
    ap (λ t. t ++ then_number value) (third (codes "cas") width addr expected)
    ∙ spaced-more (codes "cas") (decimal width ∷ decimal addr ∷ decimal expected ∷ []) (decimal value)
call-text (FetchAdd width addr value) = third (codes "fadd") width addr value
call-text (Count k) = refl
call-text (Advance k) = refl
call-text (Await k least) = refl
call-text (Alloc size) = refl
call-text (Free addr) = refl

call-line : (c : Call) → call_text c ++ 10 ∷ [] ≡ spaced_to (keyword_of c) (map decimal (numbers_of c)) (10 ∷ [])
call-line c =
    ap (λ t. t ++ 10 ∷ []) (call-text c) ∙ spaced-to (keyword_of c) (map decimal (numbers_of c)) (10 ∷ [])

call-spelled : (c : Call) → All IsWide (numbers_of c) → SpellsCall (keyword_of c ∷ map decimal (numbers_of c)) c
call-spelled (Load width addr) all = (refl, numbers-words (width ∷ addr ∷ []) all)
call-spelled (Store width addr value) all = (refl, numbers-words (width ∷ addr ∷ value ∷ []) all)
call-spelled (Swap width addr value) all = (refl, numbers-words (width ∷ addr ∷ value ∷ []) all)
call-spelled (Cas width addr expected value) all =
    (refl, numbers-words (width ∷ addr ∷ expected ∷ value ∷ []) all)
call-spelled (FetchAdd width addr value) all = (refl, numbers-words (width ∷ addr ∷ value ∷ []) all)
call-spelled (Count k) all = (refl, numbers-words (k ∷ []) all)
call-spelled (Advance k) all = (refl, numbers-words (k ∷ []) all)
call-spelled (Await k least) all = (refl, numbers-words (k ∷ least ∷ []) all)
call-spelled (Alloc size) all = (refl, numbers-words (size ∷ []) all)
call-spelled (Free addr) all = (refl, numbers-words (addr ∷ []) all)

call-words : (c : Call) → All IsWide (numbers_of c) → All IsWord (keyword_of c ∷ map decimal (numbers_of c))
call-words c all =
    All-cons IsWord (keyword_of c) (map decimal (numbers_of c)) (is-keyword c) (are-numbers (numbers_of c) all)

-- the line of an entry, whose words spell it
record Writes (entry : LogEntry) : Type 0 where
  line : Line
  text : entry_line entry ≡ line_text line ++ 10 ∷ []
  spelled : SpellsEntry (line_words line) entry

one-word : (word : List ℕ) → IsWord word → All IsWord (word ∷ [])
one-word word is = All-cons IsWord word [] is (All-nil IsWord)

is-digits : (bytes : List ℕ) → 0 < length bytes → decode_of (encode_lower bytes) ≡ Ok bytes
    → IsWord (encode_lower bytes)
is-digits bytes some read = (
  (let long = length-encode_with lower_digits bytes in omega (arith, some, long)),
  digits_large (encode_lower bytes) (decode_of-ok (encode_lower bytes) bytes read).1,
)

call-after : (word : List ℕ) (more : List (List ℕ)) (call : Call)
    → spaced_to word (more ++ keyword_of call ∷ map decimal (numbers_of call)) (10 ∷ [])
    ≡ spaced_to word more (32 ∷ (call_text call ++ 10 ∷ []))
call-after word [] call = ap (λ t. word ++ 32 ∷ t) (sym (call-line call))
call-after word (next ∷ more) call = ap (λ t. word ++ 32 ∷ t) (call-after next more call)

answered-text : (reply : Reply) (call : Call) (word : List ℕ) (more : List (List ℕ))
    → reply_text reply ++ codes " " ++ call_text call ++ 10 ∷ [] ≡ spaced_to word more (32 ∷ (call_text call ++ 10 ∷ []))
    → reply_text reply ++ codes " " ++ call_text call ++ 10 ∷ []
    ≡ spaced word (more ++ keyword_of call ∷ map decimal (numbers_of call)) ++ 10 ∷ []
answered-text reply call word more is =
    is ∙ sym (call-after word more call)
    ∙ sym (spaced-to word (more ++ keyword_of call ∷ map decimal (numbers_of call)) (10 ∷ []))

answered : (call : Call) (reply : Reply) → IsWideReply reply → All IsWide (numbers_of call)
    → Writes (Answered (record { call = call; reply = reply }))
answered call (Value value) wide all = record {
  line = record {
    word = codes "value";
    more = decimal value ∷ keyword_of call ∷ map decimal (numbers_of call);
    is = literal (codes "value") refl (omega arith);
    all = All-cons IsWord (decimal value) (keyword_of call ∷ map decimal (numbers_of call)) (is-number value wide)
        (call-words call all);
  };
  text = answered-text (Value value) call (codes "value") (decimal value ∷ [])
      (ap (λ t. codes "value " ++ t)
      (append_assoc (decimal value ++ 32 ∷ []) (call_text call) (10 ∷ [])
      ∙ append_assoc (decimal value) (32 ∷ []) (call_text call ++ 10 ∷ [])));
  spelled = (refl, (number-word value wide, call-spelled call all));
}
answered call Done wide all = record {
  line = record {
    word = codes "done";
    more = keyword_of call ∷ map decimal (numbers_of call);
    is = literal (codes "done") refl (omega arith);
    all = call-words call all;
  };
  text = answered-text Done call (codes "done") [] refl;
  spelled = (refl, call-spelled call all);
}
answered call (Refused code) wide all = record {
  line = record {
    word = codes "refused";
    more = decimal code ∷ keyword_of call ∷ map decimal (numbers_of call);
    is = literal (codes "refused") refl (omega arith);
    all = All-cons IsWord (decimal code) (keyword_of call ∷ map decimal (numbers_of call)) (is-number code wide)
        (call-words call all);
  };
  text = answered-text (Refused code) call (codes "refused") (decimal code ∷ [])
      (ap (λ t. codes "refused " ++ t)
      (append_assoc (decimal code ++ 32 ∷ []) (call_text call) (10 ∷ [])
      ∙ append_assoc (decimal code) (32 ∷ []) (call_text call ++ 10 ∷ [])));
  spelled = (refl, (number-word code wide, call-spelled call all));
}

-- a page that is fetched ahead
abbrev fetch-line : (access : List ℕ) (page : ℕ) → IsWord access → IsWide page → Line
fetch-line access page is wide = record {
  word = codes "fetch";
  more = access ∷ decimal page ∷ [];
  is = literal (codes "fetch") refl (omega arith);
  all = All-cons IsWord access (decimal page ∷ []) is (one-word (decimal page) (is-number page wide));
}

writes : (entry : LogEntry) → FitsEntry entry → Writes entry
writes (Did (Turns count)) fits = record {
  line = record {
    word = codes "turns";
    more = decimal count ∷ [];
    is = literal (codes "turns") refl (omega arith);
    all = one-word (decimal count) (is-number count fits);
  };
  text = sym (spaced-to (codes "turns") (decimal count ∷ []) (10 ∷ []));
  spelled = (refl, numbers-words (count ∷ []) (All-cons IsWide count [] fits (All-nil IsWide)));
}
writes (Did (Pulsed to)) fits = record {
  line = record {
    word = codes "pulse";
    more = decimal to ∷ [];
    is = literal (codes "pulse") refl (omega arith);
    all = one-word (decimal to) (is-number to fits);
  };
  text = sym (spaced-to (codes "pulse") (decimal to ∷ []) (10 ∷ []));
  spelled = (refl, numbers-words (to ∷ []) (All-cons IsWide to [] fits (All-nil IsWide)));
}
writes (Did (Delivered bytes)) fits =
    let read : decode_of (encode_lower bytes) ≡ Ok bytes = decode_of-encode_lower bytes fits.1 in record {
      line = record {
        word = codes "took";
        more = encode_lower bytes ∷ [];
        is = literal (codes "took") refl (omega arith);
        all = one-word (encode_lower bytes) (is-digits bytes fits.0 read);
      };
      text = sym (spaced-to (codes "took") (encode_lower bytes ∷ []) (10 ∷ []));
      spelled = (refl, (read, tt));
    }
writes (Asked call) fits = record {
  line = record {
    word = codes "call";
    more = keyword_of call ∷ map decimal (numbers_of call);
    is = literal (codes "call") refl (omega arith);
    all = call-words call fits;
  };
  text = ap (λ t. codes "call " ++ t) (call-line call)
      ∙ sym (spaced-to (codes "call") (keyword_of call ∷ map decimal (numbers_of call)) (10 ∷ []));
  spelled = (refl, call-spelled call fits);
}
writes (Answered answer) fits = answered answer.call answer.reply fits.0 fits.1
writes (Fetched page false) fits = record {
  line = fetch-line (codes "read") page (literal (codes "read") refl (omega arith)) fits;
  text = sym (spaced-to (codes "fetch") (codes "read" ∷ decimal page ∷ []) (10 ∷ []));
  spelled = (refl, (refl, numbers-words (page ∷ []) (All-cons IsWide page [] fits (All-nil IsWide))));
}
writes (Fetched page true) fits = record {
  line = fetch-line (codes "write") page (literal (codes "write") refl (omega arith)) fits;
  text = sym (spaced-to (codes "fetch") (codes "write" ∷ decimal page ∷ []) (10 ∷ []));
  spelled = (refl, (refl, numbers-words (page ∷ []) (All-cons IsWide page [] fits (All-nil IsWide))));
}

-- so it is in a log of either kind
fits-entry : (kind : LogKind) (entry : LogEntry) → FitsIn kind entry → FitsEntry entry
fits-entry OfOwnCode entry fits = fits
fits-entry OfProgram (Did event) fits = fits
fits-entry OfProgram (Asked call) fits = absurd fits
fits-entry OfProgram (Answered answer) fits = absurd fits
fits-entry OfProgram (Fetched page write) fits = absurd fits

spelled-in : (kind : LogKind) (words : List (List ℕ)) (entry : LogEntry) → FitsIn kind entry
    → SpellsEntry words entry → SpellsIn kind words entry
spelled-in OfOwnCode words entry fits spelled = spelled
spelled-in OfProgram words (Did event) fits spelled = spelled
spelled-in OfProgram words (Asked call) fits spelled = absurd fits
spelled-in OfProgram words (Answered answer) fits spelled = absurd fits
spelled-in OfProgram words (Fetched page write) fits spelled = absurd fits

module _ (kind : LogKind) where
  abbrev lines-of : (entries : List LogEntry) → All (FitsIn kind) entries → List Line
  lines-of [] all = []
  lines-of (e ∷ es) all =
      (writes e (fits-entry kind e (All-head (FitsIn kind) e es all))).line
      ∷ lines-of es (All-tail (FitsIn kind) e es all)

  lines-written : (entries : List LogEntry) (all : All (FitsIn kind) entries)
      → entry_lines entries ≡ lines_text (lines-of entries all)
  lines-written [] all = refl
  lines-written (e ∷ es) all =
      let w : Writes e = writes e (fits-entry kind e (All-head (FitsIn kind) e es all)) in
      let rest : All (FitsIn kind) es = All-tail (FitsIn kind) e es all in
      ap (λ t. t ++ entry_lines es) w.text
      ∙ append_assoc (line_text w.line) (10 ∷ []) (entry_lines es)
      ∙ ap (λ t. line_text w.line ++ 10 ∷ t) (lines-written es rest)

  lines-spelled : (entries : List LogEntry) (all : All (FitsIn kind) entries)
      → AllZip (SpellsIn kind) (map line_words (lines-of entries all)) entries
  lines-spelled [] all = tt
  lines-spelled (e ∷ es) all =
      let fits : FitsIn kind e = All-head (FitsIn kind) e es all in
      let w : Writes e = writes e (fits-entry kind e fits) in (
        spelled-in kind (line_words w.line) e fits w.spelled,
        lines-spelled es (All-tail (FitsIn kind) e es all),
      )

  -- the whole lines of a text are those that were written
  record IsCut (lines' : List Line) (text : List ℕ) : Type 0 where
    whole : List ℕ
    cut : HasWholeLines text whole
    words : worded (lines whole) ≡ map line_words lines'

  cut-lines : (ls : List Line) → IsCut ls (lines_text ls)
  cut-lines [] = record { whole = []; cut = inr (refl, NoCharPasses-nil is_end); words = refl }
  cut-lines (l ∷ ls) = record {
    whole = joined_text l ls;
    cut = inl ([], joined-whole l ls, NoCharPasses-nil is_end);
    words = worded-joined l ls;
  }

manager-word : (steady : Bool) (k : Kind) → IsWord (manager_word steady k)
manager-word true k = literal (codes "steady") refl (omega arith)
manager-word false Fixed = literal (codes "fixed") refl (omega arith)
manager-word false Dynamic = literal (codes "dynamic") refl (omega arith)

kind-word : (k : LogKind) → IsWord (log_word k)
kind-word OfProgram = literal (codes "log") refl (omega arith)
kind-word OfOwnCode = literal (codes "own") refl (omega arith)

-- brackets are moved to the right
flat : (a b c d e f g : List ℕ)
    → (((((a ++ b) ++ c) ++ d) ++ e) ++ f) ++ g ≡ a ++ (b ++ (c ++ (d ++ (e ++ (f ++ g)))))
flat a b c d e f g =
    append_assoc ((((a ++ b) ++ c) ++ d) ++ e) f g
    ∙ append_assoc (((a ++ b) ++ c) ++ d) e (f ++ g)
    ∙ append_assoc ((a ++ b) ++ c) d (e ++ (f ++ g))
    ∙ append_assoc (a ++ b) c (d ++ (e ++ (f ++ g)))
    ∙ append_assoc a b (c ++ (d ++ (e ++ (f ++ g))))

-- the word of a sum, where there is one
abbrev sum_words : Option ℕ → List (List ℕ)
sum_words None = []
sum_words (Some sum) = decimal sum ∷ []

sum-are : (sum : Option ℕ) → IfSome sum IsWide → All IsWord (sum_words sum)
sum-are None wide = All-nil IsWord
sum-are (Some sum) wide = one-word (decimal sum) (is-number sum wide)

sum-spelled : (sum : Option ℕ) → IfSome sum IsWide → SpellsSum (sum_words sum) sum
sum-spelled None wide = tt
sum-spelled (Some sum) wide = number-word sum wide

-- the last words of the first line, to its end
last-words : (word : List ℕ) (sum : Option ℕ) → word ++ sum_end sum ≡ spaced_to word (sum_words sum) (10 ∷ [])
last-words word None = refl
last-words word (Some sum) = refl

-- the first line
module _ (kind : LogKind) (h : LogHead) (sum : Option ℕ) (fits : FitsHead kind h sum) where
  abbrev manager : List ℕ
  manager = manager_word h.steady h.config.manager

  abbrev said : List (List ℕ)
  said =
      decimal h.me ∷ decimal h.config.nodes ∷ decimal h.config.pages ∷ decimal h.config.page_size ∷ manager
      ∷ sum_words sum

  abbrev head-of : Line
  head-of = record {
    word = codes "ivy";
    more = log_word kind ∷ said;
    is = literal (codes "ivy") refl (omega arith);
    all = All-cons IsWord (log_word kind) said (kind-word kind)
        (All-cons IsWord (decimal h.me)
        (decimal h.config.nodes ∷ decimal h.config.pages ∷ decimal h.config.page_size ∷ manager ∷ sum_words sum)
        (is-number h.me fits.me)
        (All-cons IsWord (decimal h.config.nodes)
        (decimal h.config.pages ∷ decimal h.config.page_size ∷ manager ∷ sum_words sum)
        (is-number h.config.nodes fits.nodes)
        (All-cons IsWord (decimal h.config.pages) (decimal h.config.page_size ∷ manager ∷ sum_words sum)
        (is-number h.config.pages fits.pages)
        (All-cons IsWord (decimal h.config.page_size) (manager ∷ sum_words sum)
        (is-number h.config.page_size fits.page_size)
        (All-cons IsWord manager (sum_words sum) (manager-word h.steady h.config.manager) (sum-are sum fits.wide))))));
  }

  -- the numbers, and what stands behind them
  numbered : (rest : List ℕ) → (((((decimal h.me ++ then_number h.config.nodes) ++ then_number h.config.pages)
      ++ then_number h.config.page_size) ++ 32 ∷ []) ++ manager) ++ rest
      ≡ decimal h.me ++ (then_number h.config.nodes ++ (then_number h.config.pages
      ++ (then_number h.config.page_size ++ (32 ∷ [] ++ (manager ++ rest)))))
  numbered rest =
      flat (decimal h.me) (then_number h.config.nodes) (then_number h.config.pages)
      (then_number h.config.page_size) (32 ∷ []) manager rest

  abbrev front : List ℕ
  front = ((((decimal h.me ++ then_number h.config.nodes) ++ then_number h.config.pages)
      ++ then_number h.config.page_size) ++ 32 ∷ []) ++ manager

  node-text : front ++ sum_end sum
      ≡ spaced_to (decimal h.me)
      (decimal h.config.nodes ∷ decimal h.config.pages ∷ decimal h.config.page_size ∷ manager ∷ sum_words sum)
      (10 ∷ [])
  node-text =
      numbered (sum_end sum)
      ∙ ap (λ t. decimal h.me ++ (then_number h.config.nodes ++ (then_number h.config.pages
      ++ (then_number h.config.page_size ++ (32 ∷ t))))) (last-words manager sum)

  as-written : (k : LogKind) → first_line k h sum ≡ spaced_to (codes "ivy") (log_word k ∷ said) (10 ∷ [])
  as-written OfProgram = ap (λ t. codes "ivy log " ++ t) node-text
  as-written OfOwnCode = ap (λ t. codes "ivy own " ++ t) node-text

  head-written : first_line kind h sum ≡ line_text head-of ++ 10 ∷ []
  head-written = as-written kind ∙ sym (spaced-to (codes "ivy") (log_word kind ∷ said) (10 ∷ []))

  head-spelled : SpellsFirst kind (line_words head-of) h sum
  head-spelled = (
    fits.may,
    (
      refl,
      (
        refl,
        (
          number-word h.me fits.me,
          (
            number-word h.config.nodes fits.nodes,
            number-word h.config.pages fits.pages,
            number-word h.config.page_size fits.page_size,
            (refl, fits.named),
          ),
          sum-spelled sum fits.wide,
        ),
      ),
    ),
  )

pub logs-read-back : LogsReadBack
logs-read-back kind head sum entries fits all =
    let l : Line = head-of kind head sum fits in
    let rest : List ℕ = entry_lines entries in
    let split : first_line kind head sum ++ rest ≡ line_text l ++ 10 ∷ rest =
    ap (λ t. t ++ rest) (head-written kind head sum fits) ∙ append_assoc (line_text l) (10 ∷ []) rest in
    let none = no-end l.word l.more l.is l.all in
    let cut : IsCut kind (lines-of kind entries all) (lines_text (lines-of kind entries all)) =
    cut-lines kind (lines-of kind entries all) in
    let first : HasSum kind (line_text l ++ 10 ∷ rest) head sum =
    subst (λ ws. SpellsFirst kind ws head sum)
    (sym (ap words_of (before-end (line_text l) rest none) ∙ words-spaced l.word l.more l.is l.all))
    (head-spelled kind head sum fits) in (
      subst (λ t. SpellsLog kind t head entries) (sym split) (record {
        first = (sum, first);
        whole = cut.whole;
        cut = subst (λ t. HasWholeLines t cut.whole)
            (sym (after-end (line_text l) rest none ∙ lines-written kind entries all)) cut.cut;
        each = subst (λ ws. AllZip (SpellsIn kind) ws entries) (sym cut.words) (lines-spelled kind entries all);
      }),
      subst (λ t. HasSum kind t head sum) (sym split) first,
    )
