-- The bodies of the twelve types: what is written is read again and passes the tests, and what passes them was written so.
use Rattle.std.proofs.Common.{◌≡◌, ℕ, ◌+◌, ◌-◌, ◌*◌, ◌%◌, ◌<◌, ◌≤◌, ◌==◌, true, false, ◌&&◌, nat_lt, nat_le, List, [], ◌∷◌, ◌++◌, length, take, drop, map, refl, sym, ap, ◌∙◌, arith}
use Rattle.std.specs.Prelude.{ℤ, FitsSigned}
use Rattle.std.specs.Int.{w32, cast_signed, cast_unsigned}
use Rattle.std.proofs.lemmas.Bool.{ne_eqb, eqb-true, eqb-false, eq-eqb, leb-true, le-leb, ltb-true, lt-ltb, and_parts, and_from}
use Rattle.std.proofs.lemmas.List.{append-nil, take_at, drop_at, drop-drop, length-append, length-take, length-drop, take-append-drop, nil_from_length}
use Rattle.wl_wire.specs.Wire.{cut_rest}
use Rattle.transfer_frames.specs.declared.frame.TheConstants.{LONGEST_TRANSFER}
use Rattle.transfer_frames.specs.declared.frame.Frame.{Frame}
use Rattle.transfer_frames.specs.declared.frame.Frame.TheVariants as frames
use Rattle.transfer_frames.specs.declared.kinds.FrameType.{FrameType}
use Rattle.transfer_frames.specs.declared.kinds.FrameType.TheVariants.{Protocol, Inject, OpenFile, ExtendFile, Fill, OpenPipe, PipeTransfer, PipeShutR, PipeShutW, Ack, Restart, Close}
use Rattle.transfer_frames.specs.Numbers.{word_bytes, word_of, long_bytes, long_of, rid_bytes, rid_of, words_of, IsWord, IsLong, IsRid, IsBytes}
use Rattle.transfer_frames.specs.Grammar.{type_of, body, body_length, HasFields}
use Rattle.transfer_frames.specs.Faults.{has_length, has_zero_rid, has_range, has_messages}
use Rattle.transfer_frames.specs.Front.{value}
use Rattle.transfer_frames.proofs.NumberLaws.{IsBytes-drop, length-word_bytes, word_of-word_bytes, word_of-below, word_parts, length-long_bytes, long_of-long_bytes, long_of-below, long_bytes-long_of, length-rid_bytes, word_of-rid_bytes, rid_of-rid_bytes, rid_parts, cast_not_zero, IsRid-rid_of}
use Rattle.transfer_frames.proofs.RidLaws.{length-rids, rids_again, rids_not_zero, rids_spelled, rids_are}

-- ---- fields behind others

after_rid : (z : ℤ) (rest : List ℕ) → drop 4 (rid_bytes z ++ rest) ≡ rest
after_rid z rest = drop_at (rid_bytes z) rest 4 (length-rid_bytes z)

after_word : (n : ℕ) (rest : List ℕ) → drop 4 (word_bytes n ++ rest) ≡ rest
after_word n rest = drop_at (word_bytes n) rest 4 (length-word_bytes n)

rid_alone : (z : ℤ) → FitsSigned w32 z → rid_of (rid_bytes z) ≡ z
rid_alone z fits = ap rid_of (sym (append-nil (rid_bytes z))) ∙ rid_of-rid_bytes z [] fits

word_alone : (n : ℕ) → IsWord n → word_of (word_bytes n) ≡ n
word_alone n fits = ap word_of (sym (append-nil (word_bytes n))) ∙ word_of-word_bytes n [] fits

long_alone : (n : ℕ) → IsLong n → long_of (long_bytes n) ≡ n
long_alone n fits = ap long_of (sym (append-nil (long_bytes n))) ∙ long_of-long_bytes n [] fits

rid_word : (z : ℤ) → FitsSigned w32 z → word_of (rid_bytes z) ≡ cast_unsigned w32 z
rid_word z fits = ap word_of (sym (append-nil (rid_bytes z))) ∙ word_of-rid_bytes z [] fits

-- the second word of a body that begins with a rid
second_word : (z : ℤ) (n : ℕ) → IsWord n → word_of (drop 4 (rid_bytes z ++ word_bytes n)) ≡ n
second_word z n fits = ap word_of (after_rid z (word_bytes n)) ∙ word_alone n fits

fill_start : (z : ℤ) (start end : ℕ) (bytes : List ℕ) → IsWord start → word_of (drop 4 (rid_bytes z ++ (word_bytes start ++ (word_bytes end ++ bytes)))) ≡ start
fill_start z start end bytes fits = ap word_of (after_rid z (word_bytes start ++ (word_bytes end ++ bytes))) ∙ word_of-word_bytes start (word_bytes end ++ bytes) fits

fill_second : (z : ℤ) (start end : ℕ) (bytes : List ℕ) → drop 8 (rid_bytes z ++ (word_bytes start ++ (word_bytes end ++ bytes))) ≡ word_bytes end ++ bytes
fill_second z start end bytes =
    sym (drop-drop 4 4 (rid_bytes z ++ (word_bytes start ++ (word_bytes end ++ bytes)))) ∙ ap (drop 4) (after_rid z (word_bytes start ++ (word_bytes end ++ bytes))) ∙ after_word start (word_bytes end ++ bytes)

fill_end : (z : ℤ) (start end : ℕ) (bytes : List ℕ) → IsWord end → word_of (drop 8 (rid_bytes z ++ (word_bytes start ++ (word_bytes end ++ bytes)))) ≡ end
fill_end z start end bytes fits = ap word_of (fill_second z start end bytes) ∙ word_of-word_bytes end bytes fits

fill_bytes : (z : ℤ) (start end : ℕ) (bytes : List ℕ) → drop 12 (rid_bytes z ++ (word_bytes start ++ (word_bytes end ++ bytes))) ≡ bytes
fill_bytes z start end bytes =
    sym (drop-drop 4 8 (rid_bytes z ++ (word_bytes start ++ (word_bytes end ++ bytes)))) ∙ ap (drop 4) (fill_second z start end bytes) ∙ after_word end bytes

fill_length : (z : ℤ) (start end : ℕ) (bytes : List ℕ) → length (rid_bytes z ++ (word_bytes start ++ (word_bytes end ++ bytes))) ≡ 12 + length bytes
fill_length z start end bytes =
    omega (arith, length-append (rid_bytes z) (word_bytes start ++ (word_bytes end ++ bytes)), length-append (word_bytes start) (word_bytes end ++ bytes), length-append (word_bytes end) bytes, length-rid_bytes z, length-word_bytes start, length-word_bytes end)

restart_number : (token : List ℕ) (connection received : ℕ) → length token ≡ 16 → drop 20 (token ++ (word_bytes connection ++ long_bytes received)) ≡ long_bytes received
restart_number token connection received len =
    sym (drop-drop 4 16 (token ++ (word_bytes connection ++ long_bytes received))) ∙ ap (drop 4) (drop_at token (word_bytes connection ++ long_bytes received) 16 len) ∙ after_word connection (long_bytes received)

pub restart_length : (token : List ℕ) (connection received : ℕ) → length token ≡ 16 → length (token ++ (word_bytes connection ++ long_bytes received)) ≡ 28
restart_length token connection received len =
    omega (arith, length-append token (word_bytes connection ++ long_bytes received), length-append (word_bytes connection) (long_bytes received), length-word_bytes connection, length-long_bytes received)

-- ---- what is written is read again

pub value-body : (frame : Frame) → HasFields frame → value (type_of frame) (body frame) ≡ frame
value-body (frames.Protocol messages) h = refl
value-body (frames.Inject rids) h = ap frames.Inject (rids_again rids h.1)
value-body (frames.OpenFile rid size) h = rw (rid_of-rid_bytes rid (word_bytes size) h.0.1, second_word rid size h.1) refl
value-body (frames.ExtendFile rid size) h = rw (rid_of-rid_bytes rid (word_bytes size) h.0.1, second_word rid size h.1) refl
value-body (frames.Fill rid start end bytes) h =
    let start_fits : IsWord start = omega arith in
    rw (rid_of-rid_bytes rid (word_bytes start ++ (word_bytes end ++ bytes)) h.0.1, fill_start rid start end bytes start_fits, fill_end rid start end bytes h.1, fill_bytes rid start end bytes) refl
value-body (frames.OpenPipe rid) h = ap frames.OpenPipe (rid_alone rid h.1)
value-body (frames.PipeTransfer rid bytes) h = rw (rid_of-rid_bytes rid bytes h.0.1, after_rid rid bytes) refl
value-body (frames.PipeShutR rid) h = ap frames.PipeShutR (rid_alone rid h.1)
value-body (frames.PipeShutW rid) h = ap frames.PipeShutW (rid_alone rid h.1)
value-body (frames.Ack count) h = ap frames.Ack (long_alone count h)
value-body (frames.Restart token connection received) h =
    let rest : drop 16 (token ++ (word_bytes connection ++ long_bytes received)) ≡ word_bytes connection ++ long_bytes received = drop_at token (word_bytes connection ++ long_bytes received) 16 h.0 in
    let word : word_of (drop 16 (token ++ (word_bytes connection ++ long_bytes received))) ≡ connection = ap word_of rest ∙ word_of-word_bytes connection (long_bytes received) h.1 in
    let long : long_of (drop 20 (token ++ (word_bytes connection ++ long_bytes received))) ≡ received = ap long_of (restart_number token connection received h.0) ∙ long_alone received h.2 in
    rw (take_at token (word_bytes connection ++ long_bytes received) 16 h.0, word, long) refl
value-body (frames.Close reason) h = ap frames.Close (word_alone reason h)

pub length-body : (frame : Frame) → HasFields frame → has_length (type_of frame) (length (body frame)) ≡ true
length-body (frames.Protocol messages) h = le-leb 8 _ h.0
length-body (frames.Inject rids) h =
    let some : 0 < 4 * length rids = omega (arith, h.0) in
    let fours : 4 * length rids % 4 ≡ 0 = omega arith in
    rw (length-rids rids) (and_from (nat_lt 0 (4 * length rids)) (4 * length rids % 4 == 0) (lt-ltb 0 (4 * length rids) some) (eq-eqb (4 * length rids % 4) 0 fours))
length-body (frames.OpenFile rid size) h = eq-eqb _ 8 (omega (arith, length-append (rid_bytes rid) (word_bytes size), length-rid_bytes rid, length-word_bytes size))
length-body (frames.ExtendFile rid size) h = eq-eqb _ 8 (omega (arith, length-append (rid_bytes rid) (word_bytes size), length-rid_bytes rid, length-word_bytes size))
length-body (frames.Fill rid start end bytes) h =
    let some : 12 < 12 + length bytes = omega (arith, h.2) in
    let blocks : (12 + length bytes - 12) % 64 ≡ 0 = omega (arith, h.2) in
    rw (fill_length rid start end bytes) (and_from (nat_lt 12 (12 + length bytes)) ((12 + length bytes - 12) % 64 == 0) (lt-ltb 12 (12 + length bytes) some) (eq-eqb ((12 + length bytes - 12) % 64) 0 blocks))
length-body (frames.OpenPipe rid) h = eq-eqb _ 4 (length-rid_bytes rid)
length-body (frames.PipeTransfer rid bytes) h =
    let len : length (rid_bytes rid ++ bytes) ≡ 4 + length bytes = omega (arith, length-append (rid_bytes rid) bytes, length-rid_bytes rid) in
    let some : 5 ≤ 4 + length bytes = omega arith in
    let few : 4 + length bytes ≤ (4 + LONGEST_TRANSFER) = omega arith in
    rw len (and_from (nat_le 5 (4 + length bytes)) (nat_le (4 + length bytes) (4 + LONGEST_TRANSFER)) (le-leb 5 (4 + length bytes) some) (le-leb (4 + length bytes) (4 + LONGEST_TRANSFER) few))
length-body (frames.PipeShutR rid) h = eq-eqb _ 4 (length-rid_bytes rid)
length-body (frames.PipeShutW rid) h = eq-eqb _ 4 (length-rid_bytes rid)
length-body (frames.Ack count) h = eq-eqb _ 8 (length-long_bytes count)
length-body (frames.Restart token connection received) h = eq-eqb _ 28 (restart_length token connection received h.0)
length-body (frames.Close reason) h = eq-eqb _ 4 (length-word_bytes reason)

pub body_length_is : (frame : Frame) → HasFields frame → length (body frame) ≡ body_length frame
body_length_is (frames.Protocol messages) h = refl
body_length_is (frames.Inject rids) h = omega (arith, length-rids rids)
body_length_is (frames.OpenFile rid size) h = omega (arith, length-append (rid_bytes rid) (word_bytes size), length-rid_bytes rid, length-word_bytes size)
body_length_is (frames.ExtendFile rid size) h = omega (arith, length-append (rid_bytes rid) (word_bytes size), length-rid_bytes rid, length-word_bytes size)
body_length_is (frames.Fill rid start end bytes) h = fill_length rid start end bytes
body_length_is (frames.OpenPipe rid) h = length-rid_bytes rid
body_length_is (frames.PipeTransfer rid bytes) h = omega (arith, length-append (rid_bytes rid) bytes, length-rid_bytes rid)
body_length_is (frames.PipeShutR rid) h = length-rid_bytes rid
body_length_is (frames.PipeShutW rid) h = length-rid_bytes rid
body_length_is (frames.Ack count) h = length-long_bytes count
body_length_is (frames.Restart token connection received) h = restart_length token connection received h.0
body_length_is (frames.Close reason) h = length-word_bytes reason

first_not_zero : (z : ℤ) (rest : List ℕ) → IsRid z → (word_of (rid_bytes z ++ rest) == 0) ≡ false
first_not_zero z rest rid = rw (word_of-rid_bytes z rest rid.1) (ne_eqb _ 0 (cast_not_zero z rid))

alone_not_zero : (z : ℤ) → IsRid z → (word_of (rid_bytes z) == 0) ≡ false
alone_not_zero z rid = rw (rid_word z rid.1) (ne_eqb _ 0 (cast_not_zero z rid))

pub rids-body : (frame : Frame) → HasFields frame → has_zero_rid (type_of frame) (body frame) ≡ false
rids-body (frames.Protocol messages) h = refl
rids-body (frames.Inject rids) h = rids_not_zero rids h.1
rids-body (frames.OpenFile rid size) h = first_not_zero rid (word_bytes size) h.0
rids-body (frames.ExtendFile rid size) h = first_not_zero rid (word_bytes size) h.0
rids-body (frames.Fill rid start end bytes) h = first_not_zero rid (word_bytes start ++ (word_bytes end ++ bytes)) h.0
rids-body (frames.OpenPipe rid) h = alone_not_zero rid h
rids-body (frames.PipeTransfer rid bytes) h = first_not_zero rid bytes h.0
rids-body (frames.PipeShutR rid) h = alone_not_zero rid h
rids-body (frames.PipeShutW rid) h = alone_not_zero rid h
rids-body (frames.Ack count) h = refl
rids-body (frames.Restart token connection received) h = refl
rids-body (frames.Close reason) h = refl

pub range-body : (frame : Frame) → HasFields frame → has_range (type_of frame) (body frame) ≡ true
range-body (frames.Protocol messages) h = refl
range-body (frames.Inject rids) h = refl
range-body (frames.OpenFile rid size) h = refl
range-body (frames.ExtendFile rid size) h = refl
range-body (frames.Fill rid start end bytes) h =
    let start_fits : IsWord start = omega arith in
    let sum : end ≡ start + (12 + length bytes - 12) = omega arith in
    rw (fill_start rid start end bytes start_fits, fill_end rid start end bytes h.1, fill_length rid start end bytes)
    (and_from ((start % 64 == 0) && (end % 64 == 0)) (end == start + (12 + length bytes - 12)) (and_from (start % 64 == 0) (end % 64 == 0) (eq-eqb (start % 64) 0 h.2.0) (eq-eqb (end % 64) 0 h.2.1)) (eq-eqb end (start + (12 + length bytes - 12)) sum))
range-body (frames.OpenPipe rid) h = refl
range-body (frames.PipeTransfer rid bytes) h = refl
range-body (frames.PipeShutR rid) h = refl
range-body (frames.PipeShutW rid) h = refl
range-body (frames.Ack count) h = refl
range-body (frames.Restart token connection received) h = refl
range-body (frames.Close reason) h = refl

pub messages-body : (frame : Frame) → HasFields frame → has_messages (type_of frame) (body frame) ≡ true
messages-body (frames.Protocol messages) h = rw h.1 refl
messages-body (frames.Inject rids) h = refl
messages-body (frames.OpenFile rid size) h = refl
messages-body (frames.ExtendFile rid size) h = refl
messages-body (frames.Fill rid start end bytes) h = refl
messages-body (frames.OpenPipe rid) h = refl
messages-body (frames.PipeTransfer rid bytes) h = refl
messages-body (frames.PipeShutR rid) h = refl
messages-body (frames.PipeShutW rid) h = refl
messages-body (frames.Ack count) h = refl
messages-body (frames.Restart token connection received) h = refl
messages-body (frames.Close reason) h = refl

-- ---- what is read was written so

pub type_of-value : (t : FrameType) (bytes : List ℕ) → type_of (value t bytes) ≡ t
type_of-value Protocol bytes = refl
type_of-value Inject bytes = refl
type_of-value OpenFile bytes = refl
type_of-value ExtendFile bytes = refl
type_of-value Fill bytes = refl
type_of-value OpenPipe bytes = refl
type_of-value PipeTransfer bytes = refl
type_of-value PipeShutR bytes = refl
type_of-value PipeShutW bytes = refl
type_of-value Ack bytes = refl
type_of-value Restart bytes = refl
type_of-value Close bytes = refl

-- a word that ends the bytes, behind n others
last_word : (n : ℕ) (bytes : List ℕ) → IsBytes bytes → length bytes ≡ n + 4 → word_bytes (word_of (drop n bytes)) ≡ drop n bytes
last_word n bytes fits len =
    let rest_len : length (drop n bytes) ≡ 4 = omega (arith, length-drop n bytes) in
    let nothing : drop 4 (drop n bytes) ≡ [] = nil_from_length _ (omega (arith, length-drop 4 (drop n bytes))) in
    sym (append-nil (word_bytes (word_of (drop n bytes)))) ∙ ap (λ (x : List ℕ). word_bytes (word_of (drop n bytes)) ++ x) (sym nothing) ∙ word_parts (drop n bytes) (omega arith) (IsBytes-drop n bytes fits)

last_rid : (bytes : List ℕ) → IsBytes bytes → length bytes ≡ 4 → rid_bytes (rid_of bytes) ≡ bytes
last_rid bytes fits len =
    let nothing : drop 4 bytes ≡ [] = nil_from_length _ (omega (arith, length-drop 4 bytes)) in
    sym (append-nil (rid_bytes (rid_of bytes))) ∙ ap (λ (x : List ℕ). rid_bytes (rid_of bytes) ++ x) (sym nothing) ∙ rid_parts bytes (omega arith) fits

rid_and_word : (bytes : List ℕ) → IsBytes bytes → length bytes ≡ 8 → rid_bytes (rid_of bytes) ++ word_bytes (word_of (drop 4 bytes)) ≡ bytes
rid_and_word bytes fits len = ap (λ (x : List ℕ). rid_bytes (rid_of bytes) ++ x) (last_word 4 bytes fits len) ∙ rid_parts bytes (omega arith) fits

-- a word behind n bytes, and what is behind it
word_after : (n : ℕ) (bytes : List ℕ) → IsBytes bytes → n + 4 ≤ length bytes → word_bytes (word_of (drop n bytes)) ++ drop (n + 4) bytes ≡ drop n bytes
word_after n bytes fits len =
    ap (λ (x : List ℕ). word_bytes (word_of (drop n bytes)) ++ x) (sym (drop-drop 4 n bytes)) ∙ word_parts (drop n bytes) (omega (arith, length-drop n bytes)) (IsBytes-drop n bytes fits)

fill_parts : (bytes : List ℕ) → IsBytes bytes → 12 ≤ length bytes → rid_bytes (rid_of bytes) ++ (word_bytes (word_of (drop 4 bytes)) ++ (word_bytes (word_of (drop 8 bytes)) ++ drop 12 bytes)) ≡ bytes
fill_parts bytes fits len =
    ap (λ (x : List ℕ). rid_bytes (rid_of bytes) ++ (word_bytes (word_of (drop 4 bytes)) ++ x)) (word_after 8 bytes fits (omega arith))
    ∙ ap (λ (x : List ℕ). rid_bytes (rid_of bytes) ++ x) (word_after 4 bytes fits (omega arith))
    ∙ rid_parts bytes (omega arith) fits

restart_parts : (bytes : List ℕ) → IsBytes bytes → length bytes ≡ 28 → take 16 bytes ++ (word_bytes (word_of (drop 16 bytes)) ++ long_bytes (long_of (drop 20 bytes))) ≡ bytes
restart_parts bytes fits len =
    ap (λ (x : List ℕ). take 16 bytes ++ (word_bytes (word_of (drop 16 bytes)) ++ x)) (long_bytes-long_of (drop 20 bytes) (omega (arith, length-drop 20 bytes)) (IsBytes-drop 20 bytes fits))
    ∙ ap (λ (x : List ℕ). take 16 bytes ++ x) (word_after 16 bytes fits (omega arith))
    ∙ take-append-drop 16 bytes

pub body-value : (t : FrameType) (bytes : List ℕ) → IsBytes bytes → has_length t (length bytes) ≡ true → body (value t bytes) ≡ bytes
body-value Protocol bytes fits len = refl
body-value Inject bytes fits len = rids_spelled bytes fits (eqb-true (length bytes % 4) 0 (and_parts (nat_lt 0 (length bytes)) (length bytes % 4 == 0) len).1)
body-value OpenFile bytes fits len = rid_and_word bytes fits (eqb-true _ 8 len)
body-value ExtendFile bytes fits len = rid_and_word bytes fits (eqb-true _ 8 len)
body-value Fill bytes fits len =
    let some : 12 < length bytes = ltb-true 12 (length bytes) (and_parts (nat_lt 12 (length bytes)) ((length bytes - 12) % 64 == 0) len).0 in
    fill_parts bytes fits (omega arith)
body-value OpenPipe bytes fits len = last_rid bytes fits (eqb-true _ 4 len)
body-value PipeTransfer bytes fits len =
    let some : 5 ≤ length bytes = leb-true 5 (length bytes) (and_parts (nat_le 5 (length bytes)) (nat_le (length bytes) (4 + LONGEST_TRANSFER)) len).0 in
    rid_parts bytes (omega arith) fits
body-value PipeShutR bytes fits len = last_rid bytes fits (eqb-true _ 4 len)
body-value PipeShutW bytes fits len = last_rid bytes fits (eqb-true _ 4 len)
body-value Ack bytes fits len = long_bytes-long_of bytes (eqb-true _ 8 len) fits
body-value Restart bytes fits len = restart_parts bytes fits (eqb-true _ 28 len)
body-value Close bytes fits len = last_word 0 bytes fits (eqb-true _ 4 len)

-- ---- what passes the tests is in the grammar

-- the tests that follow the one on the length
pub record Passes (t : FrameType) (bytes : List ℕ) : Type 0 where
  pub long : has_length t (length bytes) ≡ true
  pub rids : has_zero_rid t bytes ≡ false
  pub range : has_range t bytes ≡ true
  pub messages : has_messages t bytes ≡ true

first_rid : (bytes : List ℕ) → IsBytes bytes → (word_of bytes == 0) ≡ false → IsRid (rid_of bytes)
first_rid bytes fits not_zero = IsRid-rid_of bytes fits (eqb-false _ 0 not_zero)

word_behind : (n : ℕ) (bytes : List ℕ) → IsBytes bytes → IsWord (word_of (drop n bytes))
word_behind n bytes fits = word_of-below (drop n bytes) (IsBytes-drop n bytes fits)

pub length-map_words : (bytes : List ℕ) → 4 ≤ length bytes → 0 < length (map (cast_signed w32) (words_of bytes))
length-map_words [] len = absurd (omega arith)
length-map_words (a ∷ []) len = absurd (omega arith)
length-map_words (a ∷ b ∷ []) len = absurd (omega arith)
length-map_words (a ∷ b ∷ c ∷ []) len = absurd (omega arith)
length-map_words (a ∷ b ∷ c ∷ d ∷ rest) len = omega arith

fields-inject : (bytes : List ℕ) → IsBytes bytes → Passes Inject bytes → HasFields (value Inject bytes)
fields-inject bytes fits p =
    let len = and_parts (nat_lt 0 (length bytes)) (length bytes % 4 == 0) p.long in
    let some : 0 < length bytes = ltb-true 0 (length bytes) len.0 in
    let fours : length bytes % 4 ≡ 0 = eqb-true (length bytes % 4) 0 len.1 in
    (length-map_words bytes (omega arith), rids_are bytes fits p.rids)

fields-fill : (bytes : List ℕ) → IsBytes bytes → Passes Fill bytes → HasFields (value Fill bytes)
fields-fill bytes fits p =
    let start = word_of (drop 4 bytes) in
    let end = word_of (drop 8 bytes) in
    let some : 12 < length bytes = ltb-true 12 (length bytes) (and_parts (nat_lt 12 (length bytes)) ((length bytes - 12) % 64 == 0) p.long).0 in
    let outer = and_parts ((start % 64 == 0) && (end % 64 == 0)) (end == start + (length bytes - 12)) p.range in
    let inner = and_parts (start % 64 == 0) (end % 64 == 0) outer.0 in
    let starts : word_of (drop 4 bytes) % 64 ≡ 0 = eqb-true (start % 64) 0 inner.0 in
    let ends : word_of (drop 8 bytes) % 64 ≡ 0 = eqb-true (end % 64) 0 inner.1 in
    let sum : word_of (drop 8 bytes) ≡ word_of (drop 4 bytes) + (length bytes - 12) = eqb-true end (start + (length bytes - 12)) outer.1 in
    let count : length (drop 12 bytes) ≡ length bytes - 12 = length-drop 12 bytes in
    (first_rid bytes fits p.rids, word_behind 8 bytes fits, (starts, ends, omega arith, omega arith))

pub fields-value : (t : FrameType) (bytes : List ℕ) → IsBytes bytes → Passes t bytes → HasFields (value t bytes)
fields-value Protocol bytes fits p = (leb-true 8 _ p.long, nil_from_length (cut_rest bytes) (eqb-true (length (cut_rest bytes)) 0 p.messages))
fields-value Inject bytes fits p = fields-inject bytes fits p
fields-value OpenFile bytes fits p = (first_rid bytes fits p.rids, word_behind 4 bytes fits)
fields-value ExtendFile bytes fits p = (first_rid bytes fits p.rids, word_behind 4 bytes fits)
fields-value Fill bytes fits p = fields-fill bytes fits p
fields-value OpenPipe bytes fits p = first_rid bytes fits p.rids
fields-value PipeTransfer bytes fits p =
    let len = and_parts (nat_le 5 (length bytes)) (nat_le (length bytes) (4 + LONGEST_TRANSFER)) p.long in
    let some : 5 ≤ length bytes = leb-true 5 (length bytes) len.0 in
    let few : length bytes ≤ (4 + LONGEST_TRANSFER) = leb-true (length bytes) (4 + LONGEST_TRANSFER) len.1 in
    let count : length (drop 4 bytes) ≡ length bytes - 4 = length-drop 4 bytes in
    (first_rid bytes fits p.rids, omega arith, omega arith)
fields-value PipeShutR bytes fits p = first_rid bytes fits p.rids
fields-value PipeShutW bytes fits p = first_rid bytes fits p.rids
fields-value Ack bytes fits p = long_of-below bytes fits
fields-value Restart bytes fits p =
    let len : length bytes ≡ 28 = eqb-true (length bytes) 28 p.long in
    (omega (arith, length-take 16 bytes), word_behind 16 bytes fits, long_of-below (drop 20 bytes) (IsBytes-drop 20 bytes fits))
fields-value Close bytes fits p = word_of-below bytes fits
