-- How what was read and written goes on and ends, over any shape.
use Rattle.std.proofs.Common.{◌≡◌, ◌≢◌, ◌⊎◌, ℕ, ◌+◌, ◌<◌, ◌≤◌, List, [], ◌∷◌, ◌++◌, length, take, refl, ap, sym, ◌∙◌, inl, inr, arith, length-append, append_assoc, append-nil, None, Some, subst, ◌==◌, true, false, Result, Ok, Err, OnOk, OnErr, MatchBool}
use Rattle.std.specs.Result.{is_err}
use Rattle.std.proofs.lemmas.Grind.{common_steps}
use Rattle.std.specs.declared.option.Option.{Option}
use Rattle.std.specs.Io.KnownBytes.{Consumes, Appends, IsAtEnd}
use Rattle.std.proofs.KnownBytes.{Consumes-trans, Appends-trans, Consumes-nil, Appends-nil}
use Rattle.tetra_io.specs.Streams.{KeepsOrHides}
use Rattle.tetra_io.specs.Filling.{TakesFewer, AddsFront, Went}
use Rattle.tetra_io.specs.lemmas.Told.{Went-behind, AreTold-some, AreTold-end, AreTold-behind, AreTold-went}
use Rattle.tetra_engine.specs.declared.status.End.{End}
use Rattle.tetra_engine.specs.declared.status.Status.{Status}
use Rattle.tetra_engine.specs.declared.status.Status.TheVariants.{Done, Refused, Words, TooLong, Input, Read, Write}
use Rattle.tetra_records.specs.declared.faults.RecordFault.TheVariants.{Truncated}
use Rattle.tetra_engine.specs.Shapes.{Shape, AreInputs, spellings, outputs, NoInput}
use Rattle.tetra_engine.specs.Outcomes.{EndsBy, TookBefore, IsEnd, Outcome, IsPart, ReadFront, WriteFront, Came, Grows, IsFrontOfNext, Over}
use Rattle.tetra_engine.specs.declared.work.Stop.{Stop}
use Rattle.tetra_engine.specs.declared.work.Stop.TheVariants.{End as EndStop, Bad, More, Fault}
use Rattle.tetra_engine.specs.Working.{Ran, NoneBegins, StopGives, PastGives, end_by}

-- one input more
pub spellings-push : {X : Type 0} (shape : Shape X) (xs : List X) (x : X) → spellings shape (xs ++ x ∷ []) ≡ spellings shape xs ++ shape.spelling x
spellings-push shape [] x = append-nil (shape.spelling x)
spellings-push shape (y ∷ ys) x = ap (λ l. shape.spelling y ++ l) (spellings-push shape ys x) ∙ sym (append_assoc (shape.spelling y) (spellings shape ys) (shape.spelling x))

pub AreInputs-push : {X : Type 0} (shape : Shape X) (before xs : List X) (x : X) → AreInputs shape before xs → shape.Fits (before ++ xs) x → AreInputs shape before (xs ++ x ∷ [])
AreInputs-push shape before [] x each fits = (subst (λ k. shape.Fits k x) (append-nil before) fits, tt)
AreInputs-push shape before (y ∷ ys) x each fits =
    (each.0, AreInputs-push shape (before ++ y ∷ []) ys x each.1 (subst (λ k. shape.Fits k x) (sym (append_assoc before (y ∷ []) ys)) fits))

pub outputs-push : {X : Type 0} (shape : Shape X) (before xs : List X) (x : X) → outputs shape before (xs ++ x ∷ []) ≡ outputs shape before xs ++ shape.out (before ++ xs) x
outputs-push shape before [] x = append-nil (shape.out before x) ∙ ap (λ l. shape.out l x) (sym (append-nil before))
outputs-push shape before (y ∷ ys) x =
    ap (λ l. shape.out before y ++ l) (outputs-push shape (before ++ y ∷ []) ys x ∙ ap (λ l. outputs shape (before ++ y ∷ []) ys ++ shape.out l x) (append_assoc before (y ∷ []) ys))
    ∙ sym (append_assoc (shape.out before y) (outputs shape (before ++ y ∷ []) ys) (shape.out (before ++ y ∷ ys) x))

-- one slot more was read and written
pub ran_on : {X : Type 0} (shape : Shape X) (max n : ℕ) (xs : List X) (x : X) (r0 r1 r2 t0 t1 t2 : Option (List ℕ)) → Ran shape max n xs r0 r1 t0 t1
    → n < max → shape.Fits xs x → Consumes r1 r2 (shape.spelling x) → Appends t1 t2 (shape.out xs x) → Ran shape max (n + 1) (xs ++ x ∷ []) r0 r2 t0 t2
ran_on shape max n xs x r0 r1 r2 t0 t1 t2 ran below fits more added = record {
  slots_is = omega (arith, length-append xs (x ∷ []), ran.slots_is);
  few = omega (arith, length-append xs (x ∷ []), ran.slots_is);
  each = AreInputs-push shape [] xs x ran.each fits;
  came = subst (Consumes r0 r2) (sym (spellings-push shape xs x)) (Consumes-trans r0 r1 r2 _ _ ran.came more);
  wrote = subst (Appends t0 t2) (sym (outputs-push shape [] xs x)) (Appends-trans t0 t1 t2 _ _ ran.wrote added);
}

-- nothing was read or written
pub ran_none : {X : Type 0} (shape : Shape X) (max : ℕ) (r t : Option (List ℕ)) → Ran shape max 0 [] r r t t
ran_none shape max r t = record { slots_is = refl; few = omega arith; each = tt; came = Consumes-nil r; wrote = Appends-nil t }

-- no bytes begin no input
no_input_in_part : {X : Type 0} (shape : Shape X) (xs : List X) (p : List ℕ) → ((before : List X) (x : X) → shape.Fits before x → 0 < length (shape.spelling x)) → IsPart shape xs p → NoInput shape xs p
no_input_in_part shape xs p some (inl none) x rest fits e = absurd (omega (arith, ap length e, ap length none, length-append (shape.spelling x) rest, some xs x fits))
no_input_in_part shape xs p some (inr why) x rest fits e = why.0 x rest fits e

-- a read that fails before the last slot took part of an input
ended_part : {X : Type 0} (shape : Shape X) (max : ℕ) (xs : List X) (p : List ℕ) → length xs < max
    → IsPart shape xs p → (p ≡ []) ⊎ ((length xs < max) × shape.Stops xs p (Input (length xs) Truncated))
ended_part shape max xs p below (inl none) = inl none
ended_part shape max xs p below (inr why) = inr (below, why.1)

-- what a failed read leaves
read_front : {X : Type 0} (shape : Shape X) (max n : ℕ) (xs : List X) (r0 r1 r2 t0 t1 : Option (List ℕ)) (p : List ℕ)
    → ((before : List X) (x : X) → shape.Fits before x → 0 < length (shape.spelling x)) → Ran shape max n xs r0 r1 t0 t1 → Went r1 r2 p → IsPart shape xs p
    → (p ≡ []) ⊎ ((length xs < max) × shape.Stops xs p (Input (length xs) Truncated))
    → Came r0 r2 (ReadFront shape max (Appends t0 t1) (record { status = Read; slots = n }))
read_front shape max n xs r0 r1 r2 t0 t1 p some ran went why ended = (
  spellings shape xs ++ p,
  Went-behind r0 r1 r2 (spellings shape xs) p ran.came went,
  record {
    xs = xs;
    part = p;
    cut = record { whole = refl; each = ran.each; few = ran.few; longest = λ _. no_input_in_part shape xs p some why };
    ended = ended;
    slots = ran.slots_is;
    output = ran.wrote;
  },
)

-- one that fails behind the last slot took nothing
past_fault : {X : Type 0} (shape : Shape X) (max n : ℕ) (xs : List X) (r0 r1 r2 t0 t1 : Option (List ℕ))
    → ((before : List X) (x : X) → shape.Fits before x → 0 < length (shape.spelling x)) → Ran shape max n xs r0 r1 t0 t1 → TakesFewer r1 r2 1
    → Came r0 r2 (ReadFront shape max (Appends t0 t1) (record { status = Read; slots = n }))
past_fault shape max n xs r0 r1 r2 t0 t1 some ran ([], few, went) = read_front shape max n xs r0 r1 r2 t0 t1 [] some ran went (inl refl) (inl refl)
past_fault shape max n xs r0 r1 r2 t0 t1 some ran (a ∷ p, few, went) = absurd (omega arith)

-- the front of an output that a failed write took
front_written : {X : Type 0} (shape : Shape X) (max : ℕ) (xs : List X) (x : X) (r : List ℕ) (t0 t1 t2 : Option (List ℕ)) → length xs < max → shape.Fits xs x
    → Appends t0 t1 (outputs shape [] xs) → AddsFront t1 t2 (shape.out xs x)
    → (front : List ℕ) × IsFrontOfNext shape max xs (shape.spelling x ++ r) front × Grows t0 t2 (outputs shape [] xs ++ front)
front_written shape max xs x r None t1 t2 below fits wrote adds = ([], inl refl, tt)
front_written shape max xs x r (Some a) t1 None below fits wrote adds = ([], inl refl, tt)
front_written shape max xs x r (Some a) None (Some c) below fits wrote adds = absurd wrote
front_written shape max xs x r (Some a) (Some b) (Some c) below fits wrote adds =
    let (k, short, is) = adds in (
      take k (shape.out xs x),
      inr (x, r, k, below, fits, refl, short, refl),
      is ∙ ap (λ l. l ++ take k (shape.out xs x)) wrote ∙ append_assoc a (outputs shape [] xs) (take k (shape.out xs x)),
    )

-- what a failed write leaves
pub write_front : {X : Type 0} (shape : Shape X) (max n : ℕ) (xs : List X) (x : X) (r0 r1 r2 t0 t1 t2 : Option (List ℕ))
    → Ran shape max n xs r0 r1 t0 t1 → length xs < max → shape.Fits xs x → Consumes r1 r2 (shape.spelling x) → AddsFront t1 t2 (shape.out xs x)
    → Over r0 (λ bytes. WriteFront shape max bytes (Grows t0 t2) (record { status = Write; slots = n }))
write_front shape max n xs x r0 r1 r2 t0 t1 t2 ran below fits more adds =
    let (r, told) = AreTold-some r2 in
    let (front, next, grows) = front_written shape max xs x r t0 t1 t2 below fits ran.wrote adds in (
      spellings shape xs ++ (shape.spelling x ++ r),
      AreTold-behind r0 r1 (spellings shape xs) (shape.spelling x ++ r) ran.came (AreTold-behind r1 r2 (shape.spelling x) r more told),
      record {
        xs = xs;
        rest = shape.spelling x ++ r;
        front = front;
        whole = refl;
        each = ran.each;
        few = ran.few;
        next = next;
        slots = ran.slots_is;
        output = grows;
      },
    )

same_number : (a b : ℕ) → a ≡ b → (a == b) ≡ true
same_number a b e = grind (arith, common_steps)

-- a byte behind the last slot
too_long : {X : Type 0} (shape : Shape X) (max n : ℕ) (xs : List X) (r0 r1 r2 t0 t1 : Option (List ℕ)) (buf : List ℕ)
    → Ran shape max n xs r0 r1 t0 t1 → max ≤ n → Consumes r1 r2 buf → length buf ≡ 1
    → Over r0 (λ bytes. Outcome shape max bytes (Appends t0 t1) (record { status = TooLong; slots = n }))
too_long shape max n xs r0 r1 r2 t0 t1 [] ran all more one = absurd (omega arith)
too_long shape max n xs r0 r1 r2 t0 t1 (a ∷ c ∷ buf) ran all more one = absurd (omega arith)
too_long shape max n xs r0 r1 r2 t0 t1 (a ∷ []) ran all more one =
    let full : length xs ≡ max = omega (arith, ran.few, ran.slots_is) in
    let (r, told) = AreTold-some r2 in (
      spellings shape xs ++ (a ∷ r),
      AreTold-behind r0 r1 (spellings shape xs) (a ∷ r) ran.came (AreTold-behind r1 r2 (a ∷ []) r more told),
      record {
        xs = xs;
        rest = a ∷ r;
        cut = record { whole = refl; each = ran.each; few = ran.few; longest = λ below. absurd (omega arith) };
        closes = rw (same_number (length xs) max full) refl;
        slots = ran.slots_is;
        output = ran.wrote;
      },
    )

other_number : (a b : ℕ) → a < b → (a == b) ≡ false
other_number a b e = grind (arith, common_steps)

-- bytes that begin no input
none_begins : {X : Type 0} (shape : Shape X) (max n : ℕ) (xs : List X) (status : Status) (r0 r1 t0 t1 : Option (List ℕ))
    → Ran shape max n xs r0 r1 t0 t1 → n < max → NoneBegins shape xs r1 status
    → Over r0 (λ bytes. Outcome shape max bytes (Appends t0 t1) (record { status = status; slots = n }))
none_begins shape max n xs status r0 r1 t0 t1 ran below ([], told, (some, none, stops)) = absurd (omega arith)
none_begins shape max n xs status r0 r1 t0 t1 ran below (a ∷ m, told, (some, none, stops)) =
    let fewer : length xs < max = omega (arith, ran.slots_is) in (
      spellings shape xs ++ (a ∷ m),
      AreTold-behind r0 r1 (spellings shape xs) (a ∷ m) ran.came told,
      record {
        xs = xs;
        rest = a ∷ m;
        cut = record { whole = refl; each = ran.each; few = ran.few; longest = λ _. none };
        closes = subst (λ t. MatchBool t (status ≡ TooLong) (shape.Stops xs (a ∷ m) status)) (sym (other_number (length xs) max fewer)) stops;
        slots = ran.slots_is;
        output = ran.wrote;
      },
    )

-- what an answer of put_all says of the output
pub all_written : {T E : Type 0} (r : Result T E) (t1 t2 : Option (List ℕ)) (bytes out : List ℕ) → OnOk r (Appends t1 t2 bytes) → is_err r ≡ false → bytes ≡ out → Appends t1 t2 out
all_written (Ok u) t1 t2 bytes out h ok e = subst (Appends t1 t2) e h
all_written (Err u) t1 t2 bytes out h ok e = absurd (cc ok)

pub some_written : {T E : Type 0} (r : Result T E) (t1 t2 : Option (List ℕ)) (bytes out : List ℕ) → OnErr r (AddsFront t1 t2 bytes) → is_err r ≡ true → bytes ≡ out → AddsFront t1 t2 out
some_written (Ok u) t1 t2 bytes out h err e = absurd (cc err)
some_written (Err u) t1 t2 bytes out h err e = subst (AddsFront t1 t2) e h

-- what was taken before the flush and after it
pub grows_on : (t0 t1 t2 : Option (List ℕ)) (bytes : List ℕ) → Appends t0 t1 bytes → KeepsOrHides t1 t2 → Grows t0 t2 (bytes ++ [])
grows_on None t1 t2 bytes added kept = tt
grows_on (Some a) t1 None bytes added kept = tt
grows_on (Some a) None (Some c) bytes added kept = absurd added
grows_on (Some a) (Some b) (Some c) bytes added kept = kept ∙ added ∙ ap (λ l. a ++ l) (sym (append-nil bytes))

-- a flush that fails behind an end without a fault
flush_outcome : {X : Type 0} (shape : Shape X) (max : ℕ) (r0 t0 t1 t2 : Option (List ℕ)) (end : End)
    → Over r0 (λ bytes. Outcome shape max bytes (Appends t0 t1) end) → KeepsOrHides t1 t2
    → Over r0 (λ bytes. WriteFront shape max bytes (Grows t0 t2) (record { status = Write; slots = end.slots }))
flush_outcome shape max r0 t0 t1 t2 end (bytes, told, out) kept = (
  bytes,
  told,
  record {
    xs = out.xs;
    rest = out.rest;
    front = [];
    whole = out.cut.whole;
    each = out.cut.each;
    few = out.cut.few;
    next = inl refl;
    slots = out.slots;
    output = grows_on t0 t1 t2 _ out.output kept;
  },
)

-- and behind a failed read
flush_read : {X : Type 0} (shape : Shape X) (max : ℕ) (r0 r1 t0 t1 t2 : Option (List ℕ)) (end : End)
    → Came r0 r1 (ReadFront shape max (Appends t0 t1) end) → KeepsOrHides t1 t2
    → Over r0 (λ bytes. WriteFront shape max bytes (Grows t0 t2) (record { status = Write; slots = end.slots }))
flush_read shape max r0 r1 t0 t1 t2 end (came, went, out) kept =
    let (r, told) = AreTold-went r0 r1 came went in (
      came ++ r,
      told,
      record {
        xs = out.xs;
        rest = out.part ++ r;
        front = [];
        whole = ap (λ l. l ++ r) out.cut.whole ∙ append_assoc (spellings shape out.xs) out.part r;
        each = out.cut.each;
        few = out.cut.few;
        next = inl refl;
        slots = out.slots;
        output = grows_on t0 t1 t2 _ out.output kept;
      },
    )

-- a flush that fails
pub flush_front : {X : Type 0} (status : Status) (shape : Shape X) (max : ℕ) (r0 r1 t0 t1 t2 : Option (List ℕ)) (end : End)
    → EndsBy status shape max r0 r1 (TookBefore status t0 t1) end → status ≢ Write → KeepsOrHides t1 t2
    → Over r0 (λ bytes. WriteFront shape max bytes (Grows t0 t2) (record { status = Write; slots = end.slots }))
flush_front Done shape max r0 r1 t0 t1 t2 end ends other kept = flush_outcome shape max r0 t0 t1 t2 end ends kept
flush_front (Refused s c) shape max r0 r1 t0 t1 t2 end ends other kept = flush_outcome shape max r0 t0 t1 t2 end ends kept
flush_front (Words i w) shape max r0 r1 t0 t1 t2 end ends other kept = flush_outcome shape max r0 t0 t1 t2 end ends kept
flush_front (Input i w) shape max r0 r1 t0 t1 t2 end ends other kept = flush_outcome shape max r0 t0 t1 t2 end ends kept
flush_front Read shape max r0 r1 t0 t1 t2 end ends other kept = flush_read shape max r0 r1 t0 t1 t2 end ends kept
flush_front Write shape max r0 r1 t0 t1 t2 end ends other kept = absurd (other refl)
flush_front TooLong shape max r0 r1 t0 t1 t2 end ends other kept = flush_outcome shape max r0 t0 t1 t2 end ends kept

-- nothing is left
done_outcome : {X : Type 0} (shape : Shape X) (max n : ℕ) (xs : List X) (status : Status) (r0 r1 t0 t1 : Option (List ℕ))
    → ((before : List X) (x : X) → shape.Fits before x → 0 < length (shape.spelling x)) → Ran shape max n xs r0 r1 t0 t1 → IsAtEnd r1 → status ≡ shape.done xs
    → Over r0 (λ bytes. Outcome shape max bytes (Appends t0 t1) (record { status = status; slots = n }))
done_outcome shape max n xs status r0 r1 t0 t1 some ran none is = (
  spellings shape xs ++ [],
  AreTold-behind r0 r1 (spellings shape xs) [] ran.came (AreTold-end r1 none),
  record {
    xs = xs;
    rest = [];
    cut = record { whole = refl; each = ran.each; few = ran.few; longest = λ _ x rest fits e. absurd (omega (arith, ap length e, length-append (shape.spelling x) rest, some xs x fits)) };
    closes = is;
    slots = ran.slots_is;
    output = ran.wrote;
  },
)

done_front : {X : Type 0} (shape : Shape X) (max n : ℕ) (xs : List X) (status : Status) (r0 r1 r2 t0 t1 : Option (List ℕ))
    → ((before : List X) (x : X) → shape.Fits before x → 0 < length (shape.spelling x)) → Ran shape max n xs r0 r1 t0 t1 → IsAtEnd r1 → status ≡ shape.done xs → IsEnd status
    → EndsBy status shape max r0 r2 (TookBefore status t0 t1) (record { status = status; slots = n })
done_front shape max n xs Done r0 r1 r2 t0 t1 some ran none is quiet = done_outcome shape max n xs Done r0 r1 t0 t1 some ran none is
done_front shape max n xs (Refused s c) r0 r1 r2 t0 t1 some ran none is quiet = done_outcome shape max n xs (Refused s c) r0 r1 t0 t1 some ran none is
done_front shape max n xs (Words i w) r0 r1 r2 t0 t1 some ran none is quiet = absurd quiet
done_front shape max n xs (Input i w) r0 r1 r2 t0 t1 some ran none is quiet = absurd quiet
done_front shape max n xs Read r0 r1 r2 t0 t1 some ran none is quiet = absurd quiet
done_front shape max n xs Write r0 r1 r2 t0 t1 some ran none is quiet = absurd quiet
done_front shape max n xs TooLong r0 r1 r2 t0 t1 some ran none is quiet = absurd quiet

-- the end where no input came
pub stopped : {X : Type 0} (shape : Shape X) (max n : ℕ) (xs : List X) (stop : Stop) (last : Status) (r0 r1 r2 t0 t1 : Option (List ℕ)) (Stands : Type 0)
    → ((before : List X) (x : X) → shape.Fits before x → 0 < length (shape.spelling x)) → Ran shape max n xs r0 r1 t0 t1 → n < max
    → StopGives shape xs r1 r2 Stands stop → (Stands → last ≡ shape.done xs) → IsEnd last
    → EndsBy (end_by stop last n).status shape max r0 r2 (TookBefore (end_by stop last n).status t0 t1) (end_by stop last n)
stopped shape max n xs EndStop last r0 r1 r2 t0 t1 Stands some ran below gives is quiet = done_front shape max n xs last r0 r1 r2 t0 t1 some ran gives.1 (is gives.0) quiet
stopped shape max n xs (Bad why) last r0 r1 r2 t0 t1 Stands some ran below gives is quiet =
    none_begins shape max n xs (Input n why) r0 r1 t0 t1 ran below (subst (λ k. NoneBegins shape xs r1 (Input k why)) (sym ran.slots_is) gives)
stopped shape max n xs More last r0 r1 r2 t0 t1 Stands some ran below gives is quiet = absurd gives
stopped shape max n xs Fault last r0 r1 r2 t0 t1 Stands some ran below (p, went, why) is quiet =
    read_front shape max n xs r0 r1 r2 t0 t1 p some ran went why (ended_part shape max xs p (omega (arith, ran.slots_is)) why)

-- the end behind the last slot
pub passed : {X : Type 0} (shape : Shape X) (max n : ℕ) (xs : List X) (stop : Stop) (last : Status) (r0 r1 r2 t0 t1 : Option (List ℕ))
    → ((before : List X) (x : X) → shape.Fits before x → 0 < length (shape.spelling x)) → Ran shape max n xs r0 r1 t0 t1 → max ≤ n
    → PastGives r1 r2 stop → last ≡ shape.done xs → IsEnd last
    → EndsBy (end_by stop last n).status shape max r0 r2 (TookBefore (end_by stop last n).status t0 t1) (end_by stop last n)
passed shape max n xs EndStop last r0 r1 r2 t0 t1 some ran all gives is quiet = done_front shape max n xs last r0 r1 r2 t0 t1 some ran gives.0 is quiet
passed shape max n xs (Bad why) last r0 r1 r2 t0 t1 some ran all gives is quiet = absurd gives
passed shape max n xs More last r0 r1 r2 t0 t1 some ran all gives is quiet = too_long shape max n xs r0 r1 r2 t0 t1 gives.0 ran all gives.2 gives.1
passed shape max n xs Fault last r0 r1 r2 t0 t1 some ran all gives is quiet = past_fault shape max n xs r0 r1 r2 t0 t1 some ran gives
