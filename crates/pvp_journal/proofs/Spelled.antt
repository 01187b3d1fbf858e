-- A journal is spelled as it is read.
use Rattle.std.proofs.Common.{◌≡◌, ℕ, Bool, true, false, ◌+◌, ◌-◌, ◌≤◌, ◌==◌, not, nat_lt, nat_le, All, List, [], ◌∷◌, ◌++◌, length, take, drop, Option, Some, None, Result, Ok, Err, refl, sym, ap, subst, ◌∙◌, append_assoc, arith, if◌then◌else◌}
use Rattle.std.proofs.lemmas.Bool.{le-ltb, ltb-false, leb-true, eqb-true}
use Rattle.std.proofs.lemmas.List.Elements.{All-cons, All-nil}
use Rattle.std.proofs.lemmas.List.{length-append, length-take, length-drop, take_at, take-append-drop, drop-drop}
use Rattle.byteorder.specs.Endian.{big_number}
use Rattle.vr_types.specs.declared.cell.Boot.{Boot}
use Rattle.pvp_wire.specs.Spelling.{number}
use Rattle.pvp_wire.specs.Fits.{Fits, IsBytes}
use Rattle.pvp_wire.specs.declared.fault.WireFault.TheVariants.{Length as CutField}
use Rattle.pvp_wire.specs.Reading.{◌>>=◌, Reads, number_at}
use Rattle.pvp_wire.proofs.Formats.{IsBytes-rest, IsBytes-drop, IsBytes-take, Takes, Takes-then, bind_ok, guard_ok, ok_is}
use Rattle.pvp_wire.proofs.Numbers.{number_format, length-number}
use Rattle.pvp_wire.proofs.Parts.{n2, n4, tagged, parted, never}
use Rattle.pvp_journal.specs.declared.fault.JournalWhy.{JournalWhy}
use Rattle.pvp_journal.specs.declared.fault.JournalWhy.TheVariants.{Magic, Version}
use Rattle.pvp_journal.specs.declared.head.Head.{Head}
use Rattle.pvp_journal.specs.declared.head.Version.{Version as Format}
use Rattle.pvp_journal.specs.declared.head.Version.TheVariants.{One, Two}
use Rattle.pvp_journal.specs.Spelling.{Entry, checksum, magic, version_number, greatest_u32, opening_text, head_text, head_sum, with_length, with_checksum, record_text, record_sum, records_text, records_sum, journal_text, journal_sum}
use Rattle.pvp_journal.specs.Fits.{OpeningFits, IsHead, IsJournalable, AreJournalable}
use Rattle.pvp_journal.specs.Reading.{opening_at, bank_at, fields_at, begins_with, in_head, versioned_at, head_at}
use Rattle.pvp_journal.specs.Journals.{Sound, agree, front_at, length_in, measured_in, body_in, size_in, after, Place, next, Stands, AreRecords, ReadsAs}
use Rattle.pvp_journal.proofs.Places.{sound-is}
use Rattle.pvp_journal.proofs.Sealed.{agree-whole, length-measured}
use Rattle.pvp_journal.proofs.Taken.{by_tag, body-takes}

-- a number in front
pub number-takes : (n : ℕ) (bytes : List ℕ) → n ≤ length bytes → IsBytes bytes
    → (bytes ≡ number n (big_number n bytes) ++ drop n bytes) × Fits n (big_number n bytes)
number-takes n bytes long fits =
    let read : number_at n bytes ≡ Ok (big_number n bytes, drop n bytes) = rw (le-ltb (length bytes) n long) refl in
    let t = (number_format n).takes bytes (big_number n bytes) (drop n bytes) fits read in
    (t.0.parts, t.1)

-- ---- a record

-- what is measured, and what comes behind it
pub record IsMeasured (bytes : List ℕ) : Type 0 where
  pub text : bytes ≡ with_length (body_in bytes) ++ drop (8 + length_in bytes) bytes
  pub measure : measured_in bytes ≡ with_length (body_in bytes)
  pub short : Fits 4 (length (body_in bytes))

pub measured-splits : (bytes : List ℕ) → IsBytes bytes → agree (number 4 (greatest_u32 - length_in bytes)) (drop 4 bytes) ≡ true
    → 8 + length_in bytes ≤ length bytes
    → IsMeasured bytes
measured-splits bytes fits twice long =
    let n = length_in bytes in
    let one = number-takes 4 bytes (omega arith) fits in
    let d4 = drop 4 bytes in
    let d8 = drop 8 bytes in
    let c = number 4 (greatest_u32 - n) in
    let c-len = length-number 4 (greatest_u32 - n) in
    let two : d4 ≡ c ++ drop (length c) d4 = agree-whole c d4 (omega (arith, length-drop 4 bytes)) twice in
    let body = body_in bytes in
    let at8 : drop (length c) d4 ≡ d8 = ap (λ (k : ℕ). drop k d4) c-len ∙ drop-drop 4 4 bytes in
    let body-len : length body ≡ n = omega (arith, length-take n d8, length-drop 8 bytes) in
    let tail = drop (8 + n) bytes in
    let at-tail : drop n d8 ≡ tail = drop-drop n 8 bytes in
    let split8 : d8 ≡ body ++ tail = sym (take-append-drop n d8) ∙ ap (λ (x : List ℕ). body ++ x) at-tail in
    let front : bytes ≡ with_length body ++ tail =
    one.0 ∙ ap (λ (x : List ℕ). number 4 n ++ x) (two ∙ ap (λ (x : List ℕ). c ++ x) (at8 ∙ split8))
    ∙ ap (λ (k : ℕ). number 4 k ++ (number 4 (greatest_u32 - k) ++ (body ++ tail))) (sym body-len)
    ∙ sym (append_assoc (number 4 (length body)) (number 4 (greatest_u32 - length body)) (body ++ tail))
    ∙ sym (append_assoc (number 4 (length body) ++ number 4 (greatest_u32 - length body)) body tail) in
    let measured-len : length (with_length body) ≡ 8 + n = omega (arith, length-measured body, body-len) in
    record {
      text = front;
      measure = ap (take (8 + n)) front ∙ take_at (with_length body) tail (8 + n) measured-len;
      short = omega (arith, one.1, body-len);
    }

-- a sound record is one that was sealed
record IsSealed (before : ℕ) (bytes : List ℕ) : Type 0 where
  text : bytes ≡ with_checksum before (body_in bytes) ++ after bytes
  short : Fits 4 (length (body_in bytes))
  sum : checksum before (measured_in bytes) ≡ checksum before (with_length (body_in bytes))
  body : IsBytes (body_in bytes)
  rest : IsBytes (after bytes)

sound-sealed : (before : ℕ) (bytes : List ℕ) → IsBytes bytes → front_at before bytes ≡ Sound → IsSealed before bytes
sound-sealed before bytes fits e =
    let t = sound-is before bytes e in
    let n = length_in bytes in
    let long = t.size in
    let m = measured-splits bytes fits t.twice (omega arith) in
    let body = body_in bytes in
    let tail = drop (8 + n) bytes in
    let sum : checksum before (measured_in bytes) ≡ checksum before (with_length body) = ap (checksum before) m.measure in
    let s = number 8 (checksum before (measured_in bytes)) in
    let s-len = length-number 8 (checksum before (measured_in bytes)) in
    let three : tail ≡ s ++ drop (length s) tail = agree-whole s tail (omega (arith, length-drop (8 + n) bytes)) t.summed in
    let at-rest : drop (length s) tail ≡ after bytes =
    ap (λ (k : ℕ). drop k tail) s-len ∙ drop-drop 8 (8 + n) bytes ∙ ap (λ (k : ℕ). drop k bytes) (omega arith) in
    record {
      text = m.text ∙ ap (λ (x : List ℕ). with_length body ++ x) (three ∙ ap (λ (x : List ℕ). s ++ x) at-rest)
          ∙ ap (λ (k : ℕ). with_length body ++ (number 8 k ++ after bytes)) sum
          ∙ sym (append_assoc (with_length body) (number 8 (checksum before (with_length body))) (after bytes));
      short = m.short;
      sum = sum;
      body = IsBytes-take n (drop 8 bytes) (IsBytes-drop 8 bytes fits);
      rest = IsBytes-drop (size_in bytes) bytes fits;
    }

-- a record that stands there
record IsRecord (me : ℕ) (place : Place) (r : Entry) : Type 0 where
  text : place.bytes ≡ record_text me place.sum r ++ after place.bytes
  sum : checksum place.sum (measured_in place.bytes) ≡ record_sum me place.sum r
  journalable : IsJournalable me r
  rest : IsBytes (after place.bytes)

stands-record : (me : ℕ) (place : Place) (r : Entry) → IsBytes place.bytes → Stands me place r → IsRecord me place r
stands-record me place r fits h =
    let s = sound-sealed place.sum place.bytes fits h.front in
    let b = body-takes me (body_in place.bytes) r s.body h.body in
    record {
      text = s.text ∙ ap (λ (x : List ℕ). with_checksum place.sum x ++ after place.bytes) b.0;
      sum = s.sum ∙ ap (λ (x : List ℕ). checksum place.sum (with_length x)) b.0;
      journalable = record { fits = b.1; short = subst (λ (x : List ℕ). Fits 4 (length x)) b.0 s.short };
      rest = s.rest;
    }

-- records one after the other
record AreSpelled (me : ℕ) (start : Place) (history : List Entry) (end : Place) : Type 0 where
  text : start.bytes ≡ records_text me start.sum history ++ end.bytes
  sum : end.sum ≡ records_sum me start.sum history
  each : All (IsJournalable me) history

records-spelled : (me : ℕ) (start : Place) (history : List Entry) (end : Place) → IsBytes start.bytes → AreRecords me start history end
    → AreSpelled me start history end
records-spelled me start [] end fits h =
    record { text = sym (ap (λ (p : Place). p.bytes) h); sum = ap (λ (p : Place). p.sum) h; each = All-nil (IsJournalable me) }
records-spelled me start (r ∷ more) end fits h =
    let one = stands-record me start r fits h.0 in
    let rest = records-spelled me (next start) more end one.rest h.1 in
    let s-is = one.sum in
    let text = record_text me start.sum r in
    let others = records_text me (record_sum me start.sum r) more in
    let behind : after start.bytes ≡ others ++ end.bytes = rest.text ∙ ap (λ (k : ℕ). records_text me k more ++ end.bytes) s-is in
    record {
      text = one.text ∙ ap (λ (x : List ℕ). text ++ x) behind ∙ sym (append_assoc text others end.bytes);
      sum = rest.sum ∙ ap (λ (k : ℕ). records_sum me k more) s-is;
      each = All-cons (IsJournalable me) r more one.journalable rest.each;
    }

-- ---- the head

abbrev done_opening : Option Boot × List ℕ → Reads (Option Boot)
done_opening x = Ok x

OpeningTakes : List ℕ → Option Boot → List ℕ → Type 0
OpeningTakes bytes opening rest = Takes bytes (opening_text opening) rest × OpeningFits opening

opening-none : (flag : ℕ) (bytes : List ℕ) (opening : Option Boot) (rest : List ℕ) → IsBytes bytes → flag ≡ 0
    → done_opening (None, bytes) ≡ done_opening (opening, rest) → OpeningTakes (flag ∷ bytes) opening rest
unfolding OpeningTakes
opening-none flag bytes opening rest fits is e =
    subst (λ (p : Option Boot × List ℕ). Takes (flag ∷ bytes) (opening_text p.0) p.1 × OpeningFits p.0) (ok_is (None, bytes) (opening, rest) e)
    (record { parts = ap (λ (k : ℕ). k ∷ bytes) is; rest_fits = fits }, tt)

opening-some : (flag : ℕ) (bytes : List ℕ) (opening : Option Boot) (rest : List ℕ) → IsBytes bytes → flag ≡ 1
    → (number_at 4 bytes >>= λ n. done_opening (Some (record { boots = n.0 }), n.1)) ≡ done_opening (opening, rest) → OpeningTakes (flag ∷ bytes) opening rest
unfolding OpeningTakes
opening-some flag bytes opening rest fits is e =
    let m = bind_ok (number_at 4 bytes) (λ n. done_opening (Some (record { boots = n.0 }), n.1)) (opening, rest) e in
    let a = n4.takes bytes m.0.0 m.0.1 fits m.1 in
    let boot : Boot = record { boots = m.0.0 } in
    let t : Takes (flag ∷ bytes) (opening_text (Some boot)) m.0.1 =
    record { parts = ap (λ (k : ℕ). k ∷ bytes) is ∙ ap (λ (x : List ℕ). 1 ∷ x) a.0.parts; rest_fits = a.0.rest_fits } in
    subst (λ (p : Option Boot × List ℕ). Takes (flag ∷ bytes) (opening_text p.0) p.1 × OpeningFits p.0) (ok_is (Some boot, m.0.1) (opening, rest) m.2) (t, a.1)

opening-takes : (bytes : List ℕ) (opening : Option Boot) (rest : List ℕ) → IsBytes bytes → opening_at bytes ≡ Ok (opening, rest)
    → OpeningTakes bytes opening rest
unfolding opening_at
opening-takes [] opening rest fits e = absurd cc
opening-takes (flag ∷ bytes) opening rest fits e =
    let Goal = OpeningTakes (flag ∷ bytes) opening rest in
    let z : Option Boot × List ℕ = (opening, rest) in
    let bs : IsBytes bytes = IsBytes-rest flag bytes fits in
    by_tag flag 0 _ _ z Goal e (λ is r. opening-none flag bytes opening rest bs is r) (λ e1.
    by_tag flag 1 _ _ z Goal e1 (λ is r. opening-some flag bytes opening rest bs is r) (λ e2.
    absurd (never z e2)))

bank-takes : (bytes bank rest : List ℕ) → IsBytes bytes → bank_at bytes ≡ Ok (bank, rest) → Takes bytes bank rest × (length bank ≡ 32)
bank-takes bytes bank rest fits e =
    let g = guard_ok (nat_lt (length bytes) 32) CutField (take 32 bytes, drop 32 bytes) (bank, rest) e in
    let long : 32 ≤ length bytes = ltb-false (length bytes) 32 g.0 in
    let len : length (take 32 bytes) ≡ 32 = omega (arith, length-take 32 bytes) in
    subst (λ (p : List ℕ × List ℕ). Takes bytes p.0 p.1 × (length p.0 ≡ 32)) g.1
    (record { parts = sym (take-append-drop 32 bytes); rest_fits = IsBytes-drop 32 bytes fits }, len)

abbrev fields_text : Head → List ℕ
fields_text head = number 2 head.actor ++ opening_text head.opening ++ head.bank

fields-takes : (version : Format) (bytes : List ℕ) (head : Head) (rest : List ℕ) → IsBytes bytes → fields_at version bytes ≡ Ok (head, rest)
    → Takes bytes (fields_text head) rest × IsHead head × (head.version ≡ version)
unfolding fields_at OpeningTakes
fields-takes version bytes head rest fits e =
    let m =
    bind_ok (number_at 2 bytes) (λ actor. opening_at actor.1 >>= λ opening. bank_at opening.1 >>= λ bank.
    Ok (record { version = version; actor = actor.0; opening = opening.0; bank = bank.0 }, bank.1)) (head, rest) e in
    let k =
    bind_ok (opening_at m.0.1) (λ opening. bank_at opening.1 >>= λ bank.
    Ok (record { version = version; actor = m.0.0; opening = opening.0; bank = bank.0 }, bank.1)) (head, rest) m.2 in
    let l = bind_ok (bank_at k.0.1) (λ bank. Ok (record { version = version; actor = m.0.0; opening = k.0.0; bank = bank.0 }, bank.1)) (head, rest) k.2 in
    let a = n2.takes bytes m.0.0 m.0.1 fits m.1 in
    let b = opening-takes m.0.1 k.0.0 k.0.1 a.0.rest_fits k.1 in
    let c = bank-takes k.0.1 l.0.0 l.0.1 b.0.rest_fits l.1 in
    let read : Head = record { version = version; actor = m.0.0; opening = k.0.0; bank = l.0.0 } in
    let t : Takes bytes (fields_text read) l.0.1 =
    Takes-then bytes (number 2 m.0.0 ++ opening_text k.0.0) k.0.1 l.0.0 l.0.1
    (Takes-then bytes (number 2 m.0.0) m.0.1 (opening_text k.0.0) k.0.1 a.0 b.0) c.0 in
    subst (λ (p : Head × List ℕ). Takes bytes (fields_text p.0) p.1 × IsHead p.0 × (p.0.version ≡ version)) (ok_is (read, l.0.1) (head, rest) l.2)
    (t, record { actor = a.1; opening = b.1; bank = c.1 }, refl)

begins-takes : (n x : ℕ) (bytes : List ℕ) → IsBytes bytes → begins_with n x bytes ≡ true → bytes ≡ number n x ++ drop n bytes
begins-takes n x bytes fits h =
    let p = parted (nat_le n (length bytes)) (big_number n bytes == x) h in
    let t = number-takes n bytes (leb-true n (length bytes) p.0) fits in
    t.0 ∙ ap (λ (k : ℕ). number n k ++ drop n bytes) (eqb-true (big_number n bytes) x p.1)

abbrev found : Head × List ℕ → Result (Head × List ℕ) JournalWhy
found x = Ok x

abbrev refused : JournalWhy → Result (Head × List ℕ) JournalWhy
refused why = Err why

heads : (x y : Head × List ℕ) → found x ≡ found y → x ≡ y
heads x y e = cc

wanted : (b : Bool) (why : JournalWhy) (y : Result (Head × List ℕ) JournalWhy) (z : Head × List ℕ) → (if not b then Err why else y) ≡ Ok z
    → (b ≡ true) × (y ≡ Ok z)
wanted true why y z e = (refl, e)
wanted false why y z e = absurd cc

within : (read : Reads Head) (z : Head × List ℕ) → in_head read ≡ Ok z → read ≡ Ok z
within (Ok x) z e = ap (λ (p : Head × List ℕ). Ok p) (heads x z e)
within (Err fault) z e = absurd cc

-- what stands behind the letters
behind_text : Head → List ℕ
behind_text head = version_number head.version ∷ fields_text head

VersionedTakes : List ℕ → Head → List ℕ → Type 0
VersionedTakes bytes head rest = Takes bytes (behind_text head) rest × IsHead head

of_version : (version : Format) (n : ℕ) (bytes : List ℕ) (head : Head) (rest : List ℕ) → IsBytes bytes → n ≡ version_number version
    → in_head (fields_at version bytes) ≡ Ok (head, rest) → VersionedTakes (n ∷ bytes) head rest
unfolding VersionedTakes behind_text
of_version version n bytes head rest fits is e =
    let f = fields-takes version bytes head rest fits (within (fields_at version bytes) (head, rest) e) in
    let number-is : n ≡ version_number head.version = is ∙ sym (ap version_number f.2) in
    (subst (λ (k : ℕ). Takes (n ∷ bytes) (k ∷ fields_text head) rest) number-is (tagged n bytes (fields_text head) rest f.0), f.1)

by_version : (b : Bool) (n k : ℕ) (x y : Result (Head × List ℕ) JournalWhy) (z : Head × List ℕ) (Goal : Type 0) → (n == k) ≡ b
    → (if b then x else y) ≡ Ok z → (n ≡ k → x ≡ Ok z → Goal) → (y ≡ Ok z → Goal) → Goal
by_version true n k x y z Goal is e this other = this (eqb-true n k is) e
by_version false n k x y z Goal is e this other = other e

no_version : (z : Head × List ℕ) → refused Version ≡ found z → ⊥
no_version z e = cc

versioned-takes : (bytes : List ℕ) (head : Head) (rest : List ℕ) → IsBytes bytes → versioned_at bytes ≡ Ok (head, rest) → VersionedTakes bytes head rest
unfolding versioned_at
versioned-takes [] head rest fits e = absurd (no_version (head, rest) e)
versioned-takes (n ∷ bytes) head rest fits e =
    let bs = IsBytes-rest n bytes fits in
    let z : Head × List ℕ = (head, rest) in
    let Goal = VersionedTakes (n ∷ bytes) head rest in
    by_version (n == 1) n 1 _ _ z Goal refl e (λ is r. of_version One n bytes head rest bs is r) (λ e2.
    by_version (n == 2) n 2 _ _ z Goal refl e2 (λ is r. of_version Two n bytes head rest bs is r) (λ e3. absurd (no_version z e3)))

head-takes : (bytes : List ℕ) (head : Head) (rest : List ℕ) → IsBytes bytes → head_at bytes ≡ Ok (head, rest) → Takes bytes (head_text head) rest × IsHead head
unfolding head_at VersionedTakes behind_text
head-takes bytes head rest fits e =
    let d4 = drop 4 bytes in
    let a = wanted (begins_with 4 magic bytes) Magic (versioned_at d4) (head, rest) e in
    let b = versioned-takes d4 head rest (IsBytes-drop 4 bytes fits) a.1 in
    let one = begins-takes 4 magic bytes fits a.0 in
    let m = number 4 magic in
    let text : m ++ behind_text head ≡ head_text head = simp append_assoc in
    let parts : bytes ≡ head_text head ++ rest =
    one ∙ ap (λ (x : List ℕ). m ++ x) b.0.parts ∙ sym (append_assoc m (behind_text head) rest) ∙ ap (λ (x : List ℕ). x ++ rest) text in
    (record { parts = parts; rest_fits = b.0.rest_fits }, b.1)

-- ---- the whole

pub read_spelled : (bytes : List ℕ) (head : Head) (history : List Entry) (end : Place) → IsBytes bytes → ReadsAs bytes head history end
    → (bytes ≡ journal_text head history ++ end.bytes) × AreJournalable head history × (end.sum ≡ journal_sum head history)
read_spelled bytes head history end fits h =
    let start = h.start in
    let t = head-takes bytes head start.bytes fits h.headed.found in
    let text = head_text head in
    let len : length bytes - length start.bytes ≡ length text = omega (arith, ap length t.0.parts, length-append text start.bytes) in
    let front : take (length bytes - length start.bytes) bytes ≡ text =
    ap (λ (k : ℕ). take k bytes) len ∙ ap (take (length text)) t.0.parts ∙ take_at text start.bytes (length text) refl in
    let sum : start.sum ≡ head_sum head = h.headed.sum ∙ ap (checksum 0) front in
    let s = records-spelled head.actor start history end t.0.rest_fits h.records in
    let records = records_text head.actor (head_sum head) history in (
      t.0.parts ∙ ap (λ (x : List ℕ). text ++ x) (s.text ∙ ap (λ (k : ℕ). records_text head.actor k history ++ end.bytes) sum)
          ∙ sym (append_assoc text records end.bytes),
      record { is_head = t.1; each = s.each },
      s.sum ∙ ap (λ (k : ℕ). records_sum head.actor k history) sum,
    )
