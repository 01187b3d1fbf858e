-- A journal's text is read as its head and its history; a front of it that has the head, as a front of the history.
use Rattle.std.proofs.Common.{◌≡◌, inl, inr, ℕ, zero, suc, Bool, true, false, ◌+◌, ◌-◌, ◌≤◌, ◌<◌, ◌==◌, nat_lt, nat_le, All, List, [], ◌∷◌, ◌++◌, length, take, drop, Option, Some, None, Result, Ok, Err, refl, sym, ap, subst, ◌∙◌, append_assoc, arith}
use Rattle.std.proofs.lemmas.Bool.{le-ltb, le-leb, ltb-true, ltb-false, eq-eqb}
use Rattle.std.proofs.lemmas.List.Elements.{All-head, All-tail}
use Rattle.std.proofs.lemmas.List.{append-nil, length-append, drop_at, take_at}
use Rattle.std.proofs.Math.Seq.{take-append-add, take-nil}
use Rattle.byteorder.specs.Endian.{big_number}
use Rattle.byteorder.specs.Numbers.{big_number-reads_back}
use Rattle.vr_types.specs.declared.cell.Boot.{Boot}
use Rattle.pvp_wire.specs.Spelling.{number}
use Rattle.pvp_wire.specs.Fits.{Fits}
use Rattle.pvp_wire.proofs.Numbers.{length-number}
use Rattle.pvp_wire.proofs.Parts.{n2, n4}
use Rattle.pvp_wire.specs.declared.fault.WireFault.{WireFault}
use Rattle.pvp_journal.specs.declared.fault.JournalWhy.{JournalWhy}
use Rattle.pvp_journal.specs.declared.fault.JournalWhy.TheVariants as whys
use Rattle.pvp_journal.specs.declared.journal.Left.{Left}
use Rattle.pvp_journal.specs.declared.journal.Left.TheVariants.{Nothing, Torn}
use Rattle.pvp_journal.specs.declared.head.Head.{Head}
use Rattle.pvp_journal.specs.declared.head.Version.{Version}
use Rattle.pvp_journal.specs.declared.head.Version.TheVariants.{One, Two}
use Rattle.pvp_journal.specs.Spelling.{Entry, checksum, magic, version_number, opening_text, head_text, head_sum, body_text, record_text, record_sum, records_text, records_sum, journal_text, journal_sum}
use Rattle.pvp_journal.specs.Fits.{OpeningFits, IsHead, IsJournalable, AreJournalable}
use Rattle.pvp_journal.specs.Reading.{opening_at, bank_at, fields_at, begins_with, in_head, versioned_at, head_at, body_at}
use Rattle.pvp_journal.specs.Journals.{Front, AtEnd, CutOff, Sound, Damaged, front_at, after, Place, next, Stands, AreRecords, NoRecord, IsCut, IsCutBehind, IsLeft, IsWrong, IsHeaded, ReadsAs}
use Rattle.pvp_journal.proofs.Again.{body-again}
use Rattle.pvp_journal.proofs.Sealed.{sealed-sound, sealed-parts, length-sealed, front-cut}

-- ---- the head

opening-again : (opening : Option Boot) (rest : List ℕ) → OpeningFits opening → opening_at (opening_text opening ++ rest) ≡ Ok (opening, rest)
unfolding opening_at
opening-again None rest h = refl
opening-again (Some boot) rest h = rw (n4.again boot.boots rest h) refl

bank-again : (bank rest : List ℕ) → length bank ≡ 32 → bank_at (bank ++ rest) ≡ Ok (bank, rest)
bank-again bank rest len =
    let long : nat_lt (length (bank ++ rest)) 32 ≡ false = le-ltb (length (bank ++ rest)) 32 (omega (arith, length-append bank rest)) in
    rw (long, take_at bank rest 32 len, drop_at bank rest 32 len) refl

fields-again : (head : Head) (rest : List ℕ) → IsHead head
    → fields_at head.version ((number 2 head.actor ++ opening_text head.opening ++ head.bank) ++ rest) ≡ Ok (head, rest)
unfolding fields_at
fields-again head rest h =
    let actor = number 2 head.actor in
    let opening = opening_text head.opening in
    let regrouped = append_assoc (actor ++ opening) head.bank rest ∙ append_assoc actor opening (head.bank ++ rest) in
    let first = n2.again head.actor (opening ++ (head.bank ++ rest)) h.actor in
    let second = opening-again head.opening (head.bank ++ rest) h.opening in
    let third = bank-again head.bank rest h.bank in
    ap (fields_at head.version) regrouped ∙ rw (first, second, third) refl

begins : (n x : ℕ) (rest : List ℕ) → Fits n x → begins_with n x (number n x ++ rest) ≡ true
unfolding number
begins n x rest fits =
    let long : nat_le n (length (number n x ++ rest)) ≡ true =
    le-leb n (length (number n x ++ rest)) (omega (arith, length-append (number n x) rest, length-number n x)) in
    let is : big_number n (number n x ++ rest) ≡ x = big_number-reads_back n x rest fits in
    let known : (big_number n (number n x ++ rest) == x) ≡ true = eq-eqb (big_number n (number n x ++ rest)) x is in
    rw (long, known) refl

versioned-again : (version : Version) (rest : List ℕ) → versioned_at (version_number version ∷ rest) ≡ in_head (fields_at version rest)
unfolding versioned_at
versioned-again One rest = refl
versioned-again Two rest = refl

head-again : (head : Head) (rest : List ℕ) → IsHead head → head_at (head_text head ++ rest) ≡ Ok (head, rest)
unfolding head_at
head-again head rest h =
    let m = number 4 magic in
    let fields = number 2 head.actor ++ opening_text head.opening ++ head.bank in
    let behind = version_number head.version ∷ fields in
    let text : head_text head ≡ m ++ behind = simp append_assoc in
    let shape : head_text head ++ rest ≡ m ++ (behind ++ rest) = ap (λ (x : List ℕ). x ++ rest) text ∙ append_assoc m behind rest in
    let one = begins 4 magic (behind ++ rest) (omega arith) in
    let at4 : drop 4 (m ++ (behind ++ rest)) ≡ behind ++ rest = drop_at m (behind ++ rest) 4 (length-number 4 magic) in
    let version = versioned-again head.version (fields ++ rest) in
    let read = fields-again head rest h in
    ap head_at shape ∙ rw (one, at4, version, read) refl

-- ---- records

abbrev pub place : ℕ → List ℕ → Place
place sum bytes = record { sum = sum; bytes = bytes }

-- the record in front
record-stands : (me before : ℕ) (r : Entry) (rest : List ℕ) → IsJournalable me r → Stands me (place before (record_text me before r ++ rest)) r
record-stands me before r rest h =
    let body = body_text me r in
    let p = sealed-parts before body rest h.short in
    record { front = sealed-sound before body rest h.short; body = ap (body_at me) p.says ∙ body-again me r h.fits }

-- and the place behind it
record-next : (me before : ℕ) (r : Entry) (rest : List ℕ) → IsJournalable me r
    → next (place before (record_text me before r ++ rest)) ≡ place (record_sum me before r) rest
record-next me before r rest h =
    let body = body_text me r in
    let p = sealed-parts before body rest h.short in
    ap (λ (s : ℕ). place s (after (record_text me before r ++ rest))) p.sum ∙ ap (λ (x : List ℕ). place (record_sum me before r) x) p.behind

abbrev AllJournalable : ℕ → List Entry → Type 0
AllJournalable me history = All (IsJournalable me) history

records-again : (me before : ℕ) (history : List Entry) (rest : List ℕ) → AllJournalable me history
    → AreRecords me (place before (records_text me before history ++ rest)) history (place (records_sum me before history) rest)
records-again me before [] rest h = refl
records-again me before (r ∷ more) rest h =
    let one = All-head (IsJournalable me) r more h in
    let others = records_text me (record_sum me before r) more in
    let all : records_text me before (r ∷ more) ++ rest ≡ record_text me before r ++ (others ++ rest) = append_assoc (record_text me before r) others rest in
    let end = place (records_sum me before (r ∷ more)) rest in
    let then = records-again me (record_sum me before r) more rest (All-tail (IsJournalable me) r more h) in
    subst (λ (x : List ℕ). AreRecords me (place before x) (r ∷ more) end) (sym all) (
      record-stands me before r (others ++ rest) one,
      subst (λ (p : Place). AreRecords me p more end) (sym (record-next me before r (others ++ rest) one)) then,
    )

-- ---- journals

-- the place behind a head
head-place : (head : Head) (rest : List ℕ) → IsHead head → IsHeaded (head_text head ++ rest) head (place (head_sum head) rest)
head-place head rest h =
    let text = head_text head in
    let len : length (text ++ rest) - length rest ≡ length text = omega (arith, length-append text rest) in
    record {
      found = head-again head rest h;
      sum = sym (ap (λ (k : ℕ). checksum 0 (take k (text ++ rest))) len ∙ ap (checksum 0) (take_at text rest (length text) refl));
    }

pub journal-again : (head : Head) (history : List Entry) (rest : List ℕ) → AreJournalable head history
    → ReadsAs (journal_text head history ++ rest) head history (place (journal_sum head history) rest)
journal-again head history rest h =
    let text = head_text head in
    let records = records_text head.actor (head_sum head) history in
    let shape : journal_text head history ++ rest ≡ text ++ (records ++ rest) = append_assoc text records rest in
    record {
      start = place (head_sum head) (records ++ rest);
      headed = subst (λ (x : List ℕ). IsHeaded x head (place (head_sum head) (records ++ rest))) (sym shape) (head-place head (records ++ rest) h.is_head);
      records = records-again head.actor (head_sum head) history rest h.each;
    }

pub journal_whole : (head : Head) (history : List Entry) → AreJournalable head history
    → ReadsAs (journal_text head history) head history (place (journal_sum head history) [])
journal_whole head history h =
    subst (λ (x : List ℕ). ReadsAs x head history (place (journal_sum head history) [])) (append-nil (journal_text head history))
    (journal-again head history [] h)

-- ---- bytes are read in one way alone

abbrev said : Entry → Result Entry WireFault
said r = Ok r

abbrev silent : WireFault → Result Entry WireFault
silent fault = Err fault

entries : (x y : Entry) → said x ≡ said y → x ≡ y
entries x y e = cc

never_both : (x : Entry) (fault : WireFault) → said x ≡ silent fault → ⊥
never_both x fault e = absurd cc

abbrev found : Head × List ℕ → Result (Head × List ℕ) JournalWhy
found x = Ok x

heads : (x y : Head × List ℕ) → found x ≡ found y → x ≡ y
heads x y e = cc

one_start : (me : ℕ) (start : Place) (a b : List Entry) (x y : Place) → AreRecords me start a x → NoRecord me x → AreRecords me start b y → NoRecord me y
    → (a ≡ b) × (x ≡ y)
one_start me start [] [] x y ha nx hb ny = (refl, ha ∙ sym hb)
one_start me start [] (s ∷ others) x y ha nx hb ny = absurd (nx s (subst (λ (p : Place). Stands me p s) (sym ha) hb.0))
one_start me start (r ∷ mine) [] x y ha nx hb ny = absurd (ny r (subst (λ (p : Place). Stands me p r) (sym hb) ha.0))
one_start me start (r ∷ mine) (s ∷ others) x y ha nx hb ny =
    let first : r ≡ s = entries r s (sym ha.0.body ∙ hb.0.body) in
    let rest = one_start me (next start) mine others x y ha.1 nx hb.1 ny in
    (ap (λ (e : Entry). e ∷ mine) first ∙ ap (λ (l : List Entry). s ∷ l) rest.0, rest.1)

-- the place behind a head
one_place : (bytes : List ℕ) (head other : Head) (x y : Place) → IsHeaded bytes head x → IsHeaded bytes other y → (head ≡ other) × (x ≡ y)
one_place bytes head other x y hx hy =
    let same = heads (head, x.bytes) (other, y.bytes) (sym hx.found ∙ hy.found) in
    let bytes-are : x.bytes ≡ y.bytes = ap (λ (p : Head × List ℕ). p.1) same in
    let sums : x.sum ≡ y.sum = hx.sum ∙ ap (λ (l : List ℕ). checksum 0 (take (length bytes - length l) bytes)) bytes-are ∙ sym hy.sum in
    (ap (λ (p : Head × List ℕ). p.0) same, ap (λ (s : ℕ). place s x.bytes) sums ∙ ap (λ (l : List ℕ). place y.sum l) bytes-are)

pub one_reading : (bytes : List ℕ) (head other : Head) (a b : List Entry) (x y : Place) → ReadsAs bytes head a x → NoRecord head.actor x
    → ReadsAs bytes other b y → NoRecord other.actor y
    → (head ≡ other) × (a ≡ b) × (x ≡ y)
one_reading bytes head other a b x y hx nx hy ny =
    let same = one_place bytes head other hx.start hy.start hx.headed hy.headed in
    let there : AreRecords head.actor hx.start b y =
    subst (λ (p : Place). AreRecords head.actor p b y) (sym same.1) (subst (λ (h : Head). AreRecords h.actor hy.start b y) (sym same.0) hy.records) in
    let none : NoRecord head.actor y = subst (λ (h : Head). NoRecord h.actor y) (sym same.0) ny in
    let rest = one_start head.actor hx.start a b x y hx.records nx there none in
    (same.0, rest.0, rest.1)

-- where no record is whole
no_front : (me : ℕ) (p : Place) (front : Front) → front_at p.sum p.bytes ≡ front → (front ≡ Sound → ⊥) → NoRecord me p
no_front me p front e other r stands = other (sym e ∙ stands.front)

end_is : (before : ℕ) → front_at before [] ≡ AtEnd
unfolding front_at
end_is before = refl

pub none_at_end : (me : ℕ) (p : Place) → p.bytes ≡ [] → NoRecord me p
none_at_end me p e = no_front me p AtEnd (ap (front_at p.sum) e ∙ end_is p.sum) (λ h. cc)

pub none_left : (all : List ℕ) (me : ℕ) (p : Place) (left : Left) → IsLeft all p left → NoRecord me p
none_left all me p Nothing h = none_at_end me p h
none_left all me p (Torn at) h = no_front me p CutOff h.0 (λ e. cc)

-- where something is wrong
pub none_wrong : (me : ℕ) (p : Place) (why : JournalWhy) → (why ≡ whys.NoMemory → ⊥) → IsWrong me p why → NoRecord me p
none_wrong me p whys.Magic other h = absurd h
none_wrong me p whys.Version other h = absurd h
none_wrong me p whys.Head other h = absurd h
none_wrong me p whys.Length other h = no_front me p (Damaged whys.Length) h (λ e. cc)
none_wrong me p whys.Checksum other h = no_front me p (Damaged whys.Checksum) h (λ e. cc)
none_wrong me p (whys.Record fault) other h = λ r stands. never_both r fault (sym stands.body ∙ h.1)
none_wrong me p whys.NoMemory other h = absurd (other refl)

pub one_text : (head other : Head) (a b : List Entry) → AreJournalable head a → AreJournalable other b → journal_text head a ≡ journal_text other b
    → (head ≡ other) × (a ≡ b)
one_text head other a b ha hb e =
    let ra = journal_whole head a ha in
    let rb = subst (λ (x : List ℕ). ReadsAs x other b (place (journal_sum other b) [])) (sym e) (journal_whole other b hb) in
    let same =
    one_reading (journal_text head a) head other a b (place (journal_sum head a) []) (place (journal_sum other b) []) ra
    (none_at_end head.actor (place (journal_sum head a) []) refl) rb (none_at_end other.actor (place (journal_sum other b) []) refl) in
    (same.0, same.1)

-- ---- a journal that was cut off

-- of the records of a history, cut off behind so many bytes
pub record IsCutAt (me before : ℕ) (history : List Entry) (k : ℕ) : Type 0 where
  pub count : ℕ
  pub end : Place
  pub records : AreRecords me (place before (take k (records_text me before history))) (take count history) end
  pub text : take k (records_text me before history) ≡ records_text me before (take count history) ++ end.bytes
  pub cut : IsCut end

cut_within : (me before : ℕ) (r : Entry) (more : List Entry) (k : ℕ) → k < 16 + length (body_text me r) → IsJournalable me r → IsCutAt me before (r ∷ more) k
cut_within me before r more zero lt h = record { count = 0; end = place before []; records = refl; text = refl; cut = inl refl }
cut_within me before r more (suc k) lt h =
    let others = records_text me (record_sum me before r) more in
    record {
      count = 0;
      end = place before (take (suc k) (record_text me before r ++ others));
      records = refl;
      text = refl;
      cut = inr (front-cut before (suc k) (body_text me r) others h.short (omega arith) lt);
    }

cut_behind : (me before : ℕ) (r : Entry) (more : List Entry) (k j : ℕ) → k ≡ (16 + length (body_text me r)) + j → IsJournalable me r
    → IsCutAt me (record_sum me before r) more j → IsCutAt me before (r ∷ more) k
cut_behind me before r more k j e h c =
    let text = record_text me before r in
    let others = records_text me (record_sum me before r) more in
    let size : k ≡ length text + j = omega (arith, length-sealed before (body_text me r), e) in
    let bytes : take k (text ++ others) ≡ text ++ take j others = ap (λ (i : ℕ). take i (text ++ others)) size ∙ take-append-add text others j in
    record {
      count = suc c.count;
      end = c.end;
      records = subst (λ (x : List ℕ). AreRecords me (place before x) (r ∷ take c.count more) c.end) (sym bytes) (
        record-stands me before r (take j others) h,
        subst (λ (p : Place). AreRecords me p (take c.count more) c.end) (sym (record-next me before r (take j others) h)) c.records,
      );
      text = bytes ∙ ap (λ (x : List ℕ). text ++ x) c.text ∙ sym (append_assoc text (records_text me (record_sum me before r) (take c.count more)) c.end.bytes);
      cut = c.cut;
    }

cut_step : (b : Bool) (me before : ℕ) (r : Entry) (more : List Entry) (k : ℕ) → nat_lt k (16 + length (body_text me r)) ≡ b → IsJournalable me r
    → ((j : ℕ) → IsCutAt me (record_sum me before r) more j) → IsCutAt me before (r ∷ more) k
cut_step true me before r more k e h rest = cut_within me before r more k (ltb-true k (16 + length (body_text me r)) e) h
cut_step false me before r more k e h rest =
    let size = 16 + length (body_text me r) in
    let le : size ≤ k = ltb-false k size e in
    cut_behind me before r more k (k - size) (omega arith) h (rest (k - size))

cut_records : (me before : ℕ) (history : List Entry) (k : ℕ) → AllJournalable me history → IsCutAt me before history k
cut_records me before [] k h =
    record {
      count = 0;
      end = place before [];
      records = ap (λ (x : List ℕ). place before x) (sym (take-nil {A = ℕ} k));
      text = take-nil {A = ℕ} k;
      cut = inl refl;
    }
cut_records me before (r ∷ more) k h =
    let rest = All-tail (IsJournalable me) r more h in
    cut_step (nat_lt k (16 + length (body_text me r))) me before r more k refl (All-head (IsJournalable me) r more h)
    (λ j. cut_records me (record_sum me before r) more j rest)

pub cut_journal : (head : Head) (history : List Entry) (k : ℕ) → AreJournalable head history → length (head_text head) ≤ k
    → IsCutBehind (take k (journal_text head history)) head history
cut_journal head history k h le =
    let text = head_text head in
    let records = records_text head.actor (head_sum head) history in
    let j = k - length text in
    let k-is : k ≡ length text + j = omega arith in
    let bytes : take k (text ++ records) ≡ text ++ take j records = ap (λ (i : ℕ). take i (text ++ records)) k-is ∙ take-append-add text records j in
    let c = cut_records head.actor (head_sum head) history j h.each in
    let start = place (head_sum head) (take j records) in
    let headed : IsHeaded (take k (journal_text head history)) head start =
    subst (λ (x : List ℕ). IsHeaded x head start) (sym bytes) (head-place head (take j records) h.is_head) in
    record {
      count = c.count;
      end = c.end;
      reads = record { start = start; headed = headed; records = c.records };
      text =
          bytes ∙ ap (λ (x : List ℕ). text ++ x) c.text ∙ sym (append_assoc text (records_text head.actor (head_sum head) (take c.count history)) c.end.bytes);
      cut = c.cut;
    }

-- ---- one more record

records-more : (me before : ℕ) (history : List Entry) (r : Entry)
    → records_text me before (history ++ r ∷ []) ≡ records_text me before history ++ record_text me (records_sum me before history) r
records-more me before [] r = append-nil (record_text me before r)
records-more me before (x ∷ more) r =
    let first = record_text me before x in
    let s = record_sum me before x in
    ap (λ (t : List ℕ). first ++ t) (records-more me s more r) ∙ sym (append_assoc first (records_text me s more) (record_text me (records_sum me s more) r))

sum-more : (me before : ℕ) (history : List Entry) (r : Entry) → records_sum me before (history ++ r ∷ []) ≡ record_sum me (records_sum me before history) r
sum-more me before [] r = refl
sum-more me before (x ∷ more) r = sum-more me (record_sum me before x) more r

pub journal-more : (head : Head) (history : List Entry) (r : Entry)
    → journal_text head (history ++ r ∷ []) ≡ journal_text head history ++ record_text head.actor (journal_sum head history) r
journal-more head history r =
    let records = records_text head.actor (head_sum head) history in
    ap (λ (t : List ℕ). head_text head ++ t) (records-more head.actor (head_sum head) history r)
    ∙ sym (append_assoc (head_text head) records (record_text head.actor (journal_sum head history) r))

pub journal_sum-more : (head : Head) (history : List Entry) (r : Entry)
    → journal_sum head (history ++ r ∷ []) ≡ record_sum head.actor (journal_sum head history) r
journal_sum-more head history r = sum-more head.actor (head_sum head) history r
