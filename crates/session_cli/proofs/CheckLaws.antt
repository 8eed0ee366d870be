-- Checking goes on by lines and bytes.
use Rattle.std.proofs.Common.{◌≡◌, ◌≢◌, ℕ, ◌+◌, ◌-◌, ◌≤◌, ◌<◌, length, get_or, List, [], ◌∷◌, ◌++◌, take, drop, Option, Some, Result, Ok, Err, Bool, true, false, refl, sym, ◌∙◌, ap, ap₂, subst, append-nil, append_assoc, lit≤, inl, inr, take-append-drop}
use Rattle.std.specs.Result.{IsErr}
use Rattle.std.specs.Io.KnownBytes.{Keeps}
use Rattle.cache_tier.specs.declared.reply.Reply.{Reply}
use Rattle.cache_tier.specs.Replying.{reply_bytes, replies_bytes}
use Rattle.cache_engine.specs.Requests.{is_long}
use Rattle.sql_subset.specs.Lines.{Means, Saying}
use Rattle.session_cli.specs.declared.checker.CheckFault.{CheckFault}
use Rattle.session_cli.specs.declared.checker.CheckFault.TheVariants as fault
use Rattle.session_cli.specs.declared.checker.Checker.{Checker}
use Rattle.session_cli.specs.declared.serving.Status.TheVariants.{Finished, SourceFailed, NoMemory, InputTooLong}
use Rattle.session_cli.specs.Cutting.{cut, front_of, text_of, ended_lines, all_lines}
use Rattle.session_cli.specs.Ends.{Taken}
use Rattle.reply_lines.specs.Output.{Splits, Breaks, Passes}
use Rattle.session_cli.specs.Checking.{Checks, ChecksOr, check_reply, AreChecked, CheckedWhole, CheckedShort, Tells, Checking, CheckFeeds, CheckClosing, CheckBreaks, CheckCloses, CheckFinishes, CheckEnded, IsNewChecker, status_of}
use Rattle.session_cli.proofs.CuttingLaws.{ended_push, rest_ended, ended_same, rest_push, front_push, front_short, text_front, take_one, take_within, all_ended, all_more}
use Rattle.reply_lines.proofs.OutputLaws.{splits_then, breaks_then}
use Rattle.session_cli.proofs.ServingLaws.{replies_push, told_after, take_rest, take_whole}
use Rattle.session_cli.proofs.EndsLaws.{Taking, TakeOf, taking_new, taken_failed, taken_long, taken_all, taken_unwritten, taken_in_piece, taking_on}

-- one line has one reply
pub check_same : (t : Bool) (line : List ℕ) (r s : Option Reply) → ((x y : Saying) → Means line x → Means line y → x ≡ y) → ChecksOr t line r → ChecksOr t line s → r ≡ s
check_same true line r s one a b = a ∙ sym b
check_same false line r s one (x, m, a) (y, n, b) = a ∙ ap check_reply (one x y m n) ∙ sym b

pub checked_same : (lines : List (List ℕ)) (rs ss : List (Option Reply)) → ((line : List ℕ) (x y : Saying) → Means line x → Means line y → x ≡ y) → AreChecked lines rs → AreChecked lines ss → rs ≡ ss
checked_same [] [] [] one a b = refl
checked_same [] [] (s ∷ ss) one a b = absurd b
checked_same [] (r ∷ rs) ss one a b = absurd a
checked_same (l ∷ ls) [] ss one a b = absurd a
checked_same (l ∷ ls) (r ∷ rs) [] one a b = absurd b
checked_same (l ∷ ls) (r ∷ rs) (s ∷ ss) one (a, more) (b, others) = ap₂ (λ x xs. x ∷ xs) (check_same (is_long l) l r s (one l) a b) (checked_same ls rs ss one more others)

-- a line more
checked_push : (ls : List (List ℕ)) (rs : List (Option Reply)) (l : List ℕ) (r : Option Reply) → AreChecked ls rs → Checks l r → AreChecked (ls ++ l ∷ []) (rs ++ r ∷ [])
checked_push [] [] l r a c = (c, tt)
checked_push [] (r' ∷ rs) l r a c = absurd a
checked_push (l' ∷ ls) [] l r a c = absurd a
checked_push (l' ∷ ls) (r' ∷ rs) l r (b, a) c = (b, checked_push ls rs l r a c)

-- a front of the replies is written
short : (start : List ℕ) (lines : List (List ℕ)) (replies : List (Option Reply)) (sink : Option (List ℕ)) → AreChecked lines replies → Breaks (Some start) sink (replies_bytes replies) → CheckedShort start lines sink
short start lines replies sink a b = record { replies = replies; checked = a; count = b.count; tells = told_after start sink (take b.count (replies_bytes replies)) b.written }

breaks_of : (a b : Option (List ℕ)) (xs w : List ℕ) → Splits a b xs w → Breaks a b xs
breaks_of a b xs w s = record { count = s.count; written = s.written }

-- nothing more came, and a front of the replies is written
short_here : (start given : List ℕ) (sink : Option (List ℕ)) (checker : Checker) → Checking start given sink checker → CheckedShort start (ended_lines given) sink
short_here start given sink checker s = short start (ended_lines given) s.replies sink s.checked (breaks_of (Some start) sink (replies_bytes s.replies) checker.output s.passed)

-- all is written
whole : (start : List ℕ) (lines : List (List ℕ)) (replies : List (Option Reply)) (sink : Option (List ℕ)) → AreChecked lines replies → Splits (Some start) sink (replies_bytes replies) [] → CheckedWhole start lines sink
whole start lines replies sink a p = record {
  replies = replies;
  checked = a;
  tells = told_after start sink (take p.count (replies_bytes replies)) p.written ∙ ap (λ l. Some (start ++ l)) (take_rest p.count (replies_bytes replies) (sym p.waits));
}

pub whole_here : (start given : List ℕ) (sink : Option (List ℕ)) (checker : Checker) → checker.output ≡ [] → Checking start given sink checker → CheckedWhole start (ended_lines given) sink
whole_here start given sink checker none s = whole start (ended_lines given) s.replies sink s.checked (rw (← none) s.passed)

text_is : (given : List ℕ) (kept line : List ℕ) → line ≡ text_of kept → kept ≡ front_of (cut given).1 → ended_lines given ++ line ∷ [] ≡ ended_lines (given ++ 10 ∷ [])
text_is given kept line is kept_is =
    let text : line ≡ text_of (cut given).1 = is ∙ ap text_of kept_is ∙ text_front (cut given).1 in
    ap (λ l. ended_lines given ++ l ∷ []) text ∙ sym (ended_push given)

-- a line feed came, and the reply was passed on
pub checking_line : (start given : List ℕ) (sink sink' : Option (List ℕ)) (checker checker' : Checker) (line : List ℕ) → line ≡ text_of checker.line → checker'.line ≡ []
    → Checking start given sink checker → Tells (Ok tt) sink sink' checker.output checker'.output line → Checking start (given ++ 10 ∷ []) sink' checker'
checking_line start given sink sink' checker checker' line is empty s (reply, c, p) = record {
  replies = s.replies ++ reply ∷ [];
  checked = subst (λ (ls : List (List ℕ)). AreChecked ls (s.replies ++ reply ∷ [])) (text_is given checker.line line is s.line) (checked_push (ended_lines given) s.replies line reply s.checked c);
  line = empty ∙ sym (ap front_of (rest_ended given) ∙ front_short [] (lit≤ tt));
  passed = rw (replies_push s.replies reply) (splits_then (Some start) sink sink' (replies_bytes s.replies) checker.output (reply_bytes reply) checker'.output s.passed p);
}

-- a line feed came, and the reply didn't pass, or there was none
pub line_failed : (e : CheckFault) (start given : List ℕ) (sink sink' : Option (List ℕ)) (checker : Checker) (waiting' line : List ℕ) → line ≡ text_of checker.line
    → Checking start given sink checker → Tells (Err e) sink sink' checker.output waiting' line → (n : ℕ) × CheckedShort start (ended_lines (given ++ take n (10 ∷ []))) sink'
line_failed fault.Sink start given sink sink' checker waiting' line is s (reply, c, p) = (
  1,
  subst (λ (ls : List (List ℕ)). CheckedShort start ls sink') (text_is given checker.line line is s.line)
      (short start (ended_lines given ++ line ∷ []) (s.replies ++ reply ∷ []) sink' (checked_push (ended_lines given) s.replies line reply s.checked c)
      (rw (replies_push s.replies reply) (breaks_then (Some start) sink sink' (replies_bytes s.replies) checker.output (reply_bytes reply) s.passed p))),
)
line_failed fault.Memory start given sink sink' checker waiting' line is s (same, waits) = (
  0,
  subst (λ (l : List ℕ). CheckedShort start (ended_lines l) sink') (sym (append-nil given)) (rw same (short_here start given sink checker s)),
)

-- another byte came
pub checking_byte : (start given : List ℕ) (b : ℕ) (sink : Option (List ℕ)) (checker checker' : Checker) → b ≢ 10 → checker'.line ≡ front_of (checker.line ++ b ∷ []) → checker'.output ≡ checker.output
    → Checking start given sink checker → Checking start (given ++ b ∷ []) sink checker'
checking_byte start given b sink checker checker' differs line output s = record {
  replies = s.replies;
  checked = rw (ended_same given b differs) s.checked;
  line = line ∙ ap (λ l. front_of (l ++ b ∷ [])) s.line ∙ front_push (cut given).1 b ∙ sym (ap front_of (rest_push given b differs));
  passed = rw output s.passed;
}

pub check_failed : (r : Result (Unit {0}) CheckFault) (start given bytes : List ℕ) (n : ℕ) (sink : Option (List ℕ)) (checker : Checker) → IsErr r
    → CheckedShort start (ended_lines (given ++ take n bytes)) sink → CheckFeeds r start given bytes sink checker
check_failed (Ok done) start given bytes n sink checker is c = cc
check_failed (Err e) start given bytes n sink checker is c = (n, c)

pub check_again : (e : CheckFault) (r : Result (Unit {0}) CheckFault) (start given bytes : List ℕ) (sink : Option (List ℕ)) (checker checker' : Checker) → IsErr r
    → CheckFeeds (Err e) start given bytes sink checker → CheckFeeds r start given bytes sink checker'
check_again e (Ok done) start given bytes sink checker checker' is c = cc
check_again e (Err f) start given bytes sink checker checker' is c = c

-- a fault at a byte of a piece
pub check_byte_failed : (e : CheckFault) (r : Result (Unit {0}) CheckFault) (start given bytes : List ℕ) (i : ℕ) (sink : Option (List ℕ)) (checker checker' : Checker) → IsErr r → i < length bytes
    → CheckFeeds (Err e) start (given ++ take i bytes) (get_or bytes i 0 ∷ []) sink checker → CheckFeeds r start given bytes sink checker'
check_byte_failed e r start given bytes i sink checker checker' is lt (n, c) =
    let w = take_within bytes i n lt in
    check_failed r start given bytes w.0 sink checker' is
    (subst (λ (l : List ℕ). CheckedShort start (ended_lines l) sink) (append_assoc given (take i bytes) (take n (get_or bytes i 0 ∷ [])) ∙ ap (λ l. given ++ l) w.1) c)

-- a byte of a piece was taken in
pub checking_more : (start given bytes : List ℕ) (i : ℕ) (sink : Option (List ℕ)) (checker : Checker) → i < length bytes
    → Checking start ((given ++ take i bytes) ++ get_or bytes i 0 ∷ []) sink checker → Checking start (given ++ take (i + 1) bytes) sink checker
checking_more start given bytes i sink checker lt s =
    subst (λ (l : List ℕ). Checking start l sink checker) (append_assoc given (take i bytes) (get_or bytes i 0 ∷ []) ∙ ap (λ l. given ++ l) (take_one bytes i lt)) s

-- what waited is written
pub checking_flushed : (E : Type 0) (start given : List ℕ) (sink sink' : Option (List ℕ)) (checker checker' : Checker) → checker'.line ≡ checker.line
    → Checking start given sink checker → Passes {E = E} (Ok tt) sink sink' checker.output checker'.output [] → Checking start given sink' checker'
checking_flushed E start given sink sink' checker checker' line s p = record {
  replies = s.replies;
  checked = s.checked;
  line = line ∙ s.line;
  passed = subst (λ (l : List ℕ). Splits (Some start) sink' l checker'.output) (append-nil (replies_bytes s.replies))
      (splits_then (Some start) sink sink' (replies_bytes s.replies) checker.output [] checker'.output s.passed p);
}

-- or not
pub flush_failed : (E : Type 0) (e : E) (start given bytes : List ℕ) (sink sink' : Option (List ℕ)) (checker : Checker) (waiting' : List ℕ)
    → Checking start (given ++ bytes) sink checker → Passes (Err e) sink sink' checker.output waiting' [] → (n : ℕ) × CheckedShort start (ended_lines (given ++ take n bytes)) sink'
flush_failed E e start given bytes sink sink' checker waiting' s p = (
  length bytes,
  subst (λ (l : List ℕ). CheckedShort start (ended_lines (given ++ l)) sink') (sym (take_whole bytes))
      (short start (ended_lines (given ++ bytes)) s.replies sink' s.checked
      (subst (λ (l : List ℕ). Breaks (Some start) sink' l) (append-nil (replies_bytes s.replies)) (breaks_then (Some start) sink sink' (replies_bytes s.replies) checker.output [] s.passed p))),
)

-- all lines end with a line feed
pub check_closes_ended : (start given : List ℕ) (sink : Option (List ℕ)) (checker : Checker) → checker.line ≡ [] → Checking start given sink checker → CheckClosing start (all_lines given) sink checker.output
check_closes_ended start given sink checker none s = record { replies = s.replies; checked = rw (all_ended given (sym s.line ∙ none)) s.checked; passed = s.passed }

-- the last line is checked
pub check_closes_line : (r : Result (Unit {0}) CheckFault) (start given : List ℕ) (sink sink' : Option (List ℕ)) (checker : Checker) (waiting' line : List ℕ) → line ≡ checker.line → checker.line ≢ []
    → Checking start given sink checker → Tells r sink sink' checker.output waiting' line → CheckCloses r start given sink' waiting'
check_closes_line (Ok done) start given sink sink' checker waiting' line is some s (reply, c, p) = record {
  replies = s.replies ++ reply ∷ [];
  checked = rw (all_more given line (is ∙ s.line) (λ none. some (sym is ∙ none))) (checked_push (ended_lines given) s.replies line reply s.checked c);
  passed = rw (replies_push s.replies reply) (splits_then (Some start) sink sink' (replies_bytes s.replies) checker.output (reply_bytes reply) waiting' s.passed p);
}
check_closes_line (Err fault.Sink) start given sink sink' checker waiting' line is some s (reply, c, p) =
    inr (subst (λ (ls : List (List ℕ)). CheckedShort start ls sink') (sym (all_more given line (is ∙ s.line) (λ none. some (sym is ∙ none))))
    (short start (ended_lines given ++ line ∷ []) (s.replies ++ reply ∷ []) sink' (checked_push (ended_lines given) s.replies line reply s.checked c)
    (rw (replies_push s.replies reply) (breaks_then (Some start) sink sink' (replies_bytes s.replies) checker.output (reply_bytes reply) s.passed p))))
check_closes_line (Err fault.Memory) start given sink sink' checker waiting' line is some s (same, waits) = inl (rw same (short_here start given sink checker s))

pub check_closes_failed : (e : CheckFault) (r : Result (Unit {0}) CheckFault) (start given : List ℕ) (sink : Option (List ℕ)) (waiting : List ℕ) → IsErr r → CheckCloses (Err e) start given sink waiting → CheckFinishes r start given sink
check_closes_failed e (Ok done) start given sink waiting is c = cc
check_closes_failed e (Err f) start given sink waiting is c = c

pub check_finishes : (E : Type 0) (start given : List ℕ) (sink sink' : Option (List ℕ)) (waiting waiting' : List ℕ) → CheckClosing start (all_lines given) sink waiting → Passes {E = E} (Ok tt) sink sink' waiting waiting' [] → waiting' ≡ []
    → CheckedWhole start (all_lines given) sink'
check_finishes E start given sink sink' waiting waiting' c p none =
    whole start (all_lines given) c.replies sink' c.checked
    (rw (← none) (subst (λ (l : List ℕ). Splits (Some start) sink' l waiting') (append-nil (replies_bytes c.replies)) (splits_then (Some start) sink sink' (replies_bytes c.replies) waiting [] waiting' c.passed p)))

pub check_unfinished : (E : Type 0) (e : E) (start given : List ℕ) (sink sink' : Option (List ℕ)) (waiting waiting' : List ℕ) → CheckClosing start (all_lines given) sink waiting → Passes (Err e) sink sink' waiting waiting' [] → CheckBreaks start given sink'
check_unfinished E e start given sink sink' waiting waiting' c p =
    inr (short start (all_lines given) c.replies sink' c.checked
    (subst (λ (l : List ℕ). Breaks (Some start) sink' l) (append-nil (replies_bytes c.replies)) (breaks_then (Some start) sink sink' (replies_bytes c.replies) waiting [] c.passed p)))

-- Between two pieces: all that was given is taken in.
pub record CheckGoing (start input : List ℕ) (room : ℕ) (source sink : Option (List ℕ)) (checker : Checker) : Type 0 where
  pub taking : Taking input room source
  pub checking : Checking start taking.given sink checker

pub check_going_new : (checker : Checker) (input start : List ℕ) (source sink : Option (List ℕ)) → IsNewChecker checker → source ≡ Some input → sink ≡ Some start → CheckGoing start input 4294967296 source sink checker
unfolding taking_new
check_going_new checker input start source sink n is_source is_sink = record {
  taking = taking_new input source is_source;
  checking = record {
    replies = [];
    checked = tt;
    line = n.line ∙ sym (front_short [] (lit≤ tt));
    passed = record { count = 0; written = rw is_sink (sym (append-nil start)); waits = n.output };
  };
}

-- memory was wanting before the first line
pub check_unstarted : (input start : List ℕ) (source sink : Option (List ℕ)) → source ≡ Some input → sink ≡ Some start → CheckEnded NoMemory start input source sink
check_unstarted input start source sink is_source is_sink = record {
  taken = record { given = []; left = input; tells = is_source; parts = refl; gives = refl };
  outcome = is_sink;
}

pub check_source : (start input : List ℕ) (room : ℕ) (source source' sink : Option (List ℕ)) (checker : Checker) → checker.output ≡ [] → 0 < room → Keeps source source' → CheckGoing start input room source sink checker
    → CheckEnded SourceFailed start input source' sink
unfolding taken_failed
check_source start input room source source' sink checker none some kept g = record {
  taken = taken_failed input room source source' some kept g.taking;
  outcome = whole_here start g.taking.given sink checker none g.checking;
}

pub check_long : (start input : List ℕ) (room : ℕ) (source sink : Option (List ℕ)) (checker : Checker) → checker.output ≡ [] → room ≤ 0 → CheckGoing start input room source sink checker → CheckEnded InputTooLong start input source sink
unfolding taken_long
check_long start input room source sink checker none full g = record {
  taken = taken_long input room source full g.taking;
  outcome = whole_here start g.taking.given sink checker none g.checking;
}

pub check_all : (start input : List ℕ) (room : ℕ) (source source' sink sink' : Option (List ℕ)) (checker : Checker) (buf : List ℕ) (n : ℕ) → n ≡ 0 → 0 < room → 0 < length buf → TakeOf source source' n buf
    → (g : CheckGoing start input room source sink checker) → CheckedWhole start (all_lines g.taking.given) sink' → CheckEnded Finished start input source' sink'
unfolding taken_all
check_all start input room source source' sink sink' checker buf n none some space p g done = record {
  taken = taken_all input room source source' buf n none some space p g.taking;
  outcome = done;
}

-- a fault, by its status
unfoldable pub taken_fault : (e : CheckFault) (input : List ℕ) (room : ℕ) (source source' : Option (List ℕ)) (buf : List ℕ) (n : ℕ) → n ≡ 0 → TakeOf source source' n buf → Taking input room source → Taken (status_of e) input source'
taken_fault fault.Sink input room source source' buf n none p t = taken_unwritten input room source source' buf n none p t
taken_fault fault.Memory input room source source' buf n none p t =
    let k = taken_unwritten input room source source' buf n none p t in record { given = k.given; left = k.left; tells = k.tells; parts = k.parts; gives = k.gives }

unfoldable pub taken_fault_in_piece : (e : CheckFault) (input : List ℕ) (room : ℕ) (source : Option (List ℕ)) → Taking input room source → Taken (status_of e) input source
taken_fault_in_piece fault.Sink input room source t = taken_in_piece input room source t
taken_fault_in_piece fault.Memory input room source t =
    let k = taken_in_piece input room source t in record { given = k.given; left = k.left; tells = k.tells; parts = k.parts; gives = k.gives }

pub check_unwritten : (e : CheckFault) (start input : List ℕ) (room : ℕ) (source source' sink sink' : Option (List ℕ)) (checker : Checker) (buf : List ℕ) (n : ℕ) → n ≡ 0 → TakeOf source source' n buf
    → (g : CheckGoing start input room source sink checker) → CheckBreaks start g.taking.given sink' → CheckEnded (status_of e) start input source' sink'
unfolding taken_unwritten
check_unwritten fault.Sink start input room source source' sink sink' checker buf n none p g b = record {
  taken = taken_unwritten input room source source' buf n none p g.taking;
  outcome = record { front = g.taking.given; behind = []; parts = sym (append-nil g.taking.given); checked = b };
}
check_unwritten fault.Memory start input room source source' sink sink' checker buf n none p g b =
    let t = taken_unwritten input room source source' buf n none p g.taking in record {
      taken = record { given = t.given; left = t.left; tells = t.tells; parts = t.parts; gives = t.gives };
      outcome = record { front = g.taking.given; behind = []; parts = sym (append-nil g.taking.given); checked = b };
    }

pub check_in_piece : (e : CheckFault) (start input : List ℕ) (room room' : ℕ) (source source' sink sink' : Option (List ℕ)) (checker : Checker) (buf bytes : List ℕ) (n : ℕ)
    → bytes ≡ take n buf → length bytes ≡ n → n ≤ room → room' ≡ room - n → TakeOf source source' n buf
    → (g : CheckGoing start input room source sink checker) → (m : ℕ) × CheckedShort start (ended_lines (g.taking.given ++ take m bytes)) sink' → CheckEnded (status_of e) start input source' sink'
unfolding taking_on taken_in_piece
check_in_piece fault.Sink start input room room' source source' sink sink' checker buf bytes n are len within less p g (m, s) = record {
  taken = taken_in_piece input room' source' (taking_on input room room' source source' buf bytes n are len within less p g.taking);
  outcome = record {
    front = g.taking.given ++ take m bytes;
    behind = drop m bytes;
    parts = ap (λ l. g.taking.given ++ l) (sym (take-append-drop m bytes)) ∙ sym (append_assoc g.taking.given (take m bytes) (drop m bytes));
    checked = inl s;
  };
}
check_in_piece fault.Memory start input room room' source source' sink sink' checker buf bytes n are len within less p g (m, s) =
    let t = taken_in_piece input room' source' (taking_on input room room' source source' buf bytes n are len within less p g.taking) in record {
      taken = record { given = t.given; left = t.left; tells = t.tells; parts = t.parts; gives = t.gives };
      outcome = record {
        front = g.taking.given ++ take m bytes;
        behind = drop m bytes;
        parts = ap (λ l. g.taking.given ++ l) (sym (take-append-drop m bytes)) ∙ sym (append_assoc g.taking.given (take m bytes) (drop m bytes));
        checked = inl s;
      };
    }

pub check_going_on : (start input : List ℕ) (room room' : ℕ) (source source' sink sink' : Option (List ℕ)) (checker checker' : Checker) (buf bytes : List ℕ) (n : ℕ)
    → bytes ≡ take n buf → length bytes ≡ n → n ≤ room → room' ≡ room - n → TakeOf source source' n buf
    → (g : CheckGoing start input room source sink checker) → Checking start (g.taking.given ++ bytes) sink' checker' → CheckGoing start input room' source' sink' checker'
unfolding taking_on
check_going_on start input room room' source source' sink sink' checker checker' buf bytes n are len within less p g s = record {
  taking = taking_on input room room' source source' buf bytes n are len within less p g.taking;
  checking = s;
}
