-- One write after another. Assumes nothing.
use Rattle.std.proofs.Common.{◌≡◌, ℕ, ◌+◌, ◌≤◌, List, [], ◌++◌, length, take, drop, sym, refl, ap, ◌∙◌, subst, append_assoc, add_assoc, arith, length-append, length-drop, take-append-drop, length-take-le, drop-drop, take_at}
use lib.Seq.{drop-append-add, take-length}
use borrow.Rule.Slice.PartMut.{put_mid}
use Rattle.std.proofs.lemmas.Slice.{put_mid-paste}
use Rattle.writing.specs.Puts.{Put}

-- what `copy_from_slice` into a part leaves
pub put_copied : (old part src : List ℕ) (i k : ℕ) → part ≡ src → k ≡ length src → put_mid i k old part ≡ take i old ++ (src ++ drop (i + length src) old)
put_copied old part src i k e n =
    put_mid-paste i k old part src (length src) e (sym n) refl
    ∙ append_assoc (take i old) (take (length src) src) (drop (i + length src) old)
    ∙ ap (λ l. take i old ++ (l ++ drop (i + length src) old)) (take-length src)

put_put : (old xs ys : List ℕ) (i : ℕ) → i + length xs ≤ length old → let mid = take i old ++ (xs ++ drop (i + length xs) old) in take (i + length xs) mid ++ (ys ++ drop (i + length xs + length ys) mid) ≡ take i old ++ ((xs ++ ys) ++ drop (i + length (xs ++ ys)) old)
put_put old xs ys i h =
    let j = i + length xs in
    let front = take i old ++ xs in
    let back = drop j old in
    let one : take i old ++ (xs ++ back) ≡ front ++ back = sym (append_assoc (take i old) xs back) in
    let long : length front ≡ j = length-append (take i old) xs ∙ omega (arith, length-take-le i old (omega arith)) in
    let two : take j (front ++ back) ≡ front = take_at front back j long in
    let three : drop (j + length ys) (front ++ back) ≡ drop (i + length (xs ++ ys)) old =
    ap (λ m. drop m (front ++ back)) (ap (λ m. m + length ys) (sym long))
    ∙ drop-append-add front back (length ys)
    ∙ drop-drop (length ys) j old
    ∙ ap (λ m. drop m old) (add_assoc i (length xs) (length ys) ∙ ap (λ m. i + m) (sym (length-append xs ys)))
    in
    ap (λ l. take j l ++ (ys ++ drop (j + length ys) l)) one
    ∙ ap (λ l. l ++ (ys ++ drop (j + length ys) (front ++ back))) two
    ∙ ap (λ l. front ++ (ys ++ l)) three
    ∙ append_assoc (take i old) xs (ys ++ drop (i + length (xs ++ ys)) old)
    ∙ ap (λ l. take i old ++ l) (sym (append_assoc xs ys (drop (i + length (xs ++ ys)) old)))

pub put_length : {old bs new : List ℕ} {i end : ℕ} → Put old i bs new end → length new ≡ length old
put_length {old} {bs} {new} {i} p =
    let back = drop (i + length bs) old in
    ap length p.out
    ∙ length-append (take i old) (bs ++ back)
    ∙ omega (arith, length-append bs back, length-drop (i + length bs) old, length-take-le i old (omega (arith, p.room)), p.room)

-- the same bytes by another name
pub put_as : {old bs cs new : List ℕ} {i end : ℕ} → bs ≡ cs → Put old i bs new end → Put old i cs new end
put_as {old} {bs} {cs} {new} {i} {end} e p = subst (λ xs. Put old i xs new end) e p

-- a second write, right behind the first
pub then : {old mid new xs ys : List ℕ} {i j k : ℕ} → Put old i xs mid j → Put mid j ys new k → Put old i (xs ++ ys) new k
then {old} {mid} {new} {xs} {ys} {i} {j} {k} p q = record {
  room = omega (arith, length-append xs ys, put_length p, p.next, q.room);
  next = omega (arith, length-append xs ys, p.next, q.next);
  out =
      q.out
      ∙ ap (λ m. take m mid ++ (ys ++ drop (m + length ys) mid)) p.next
      ∙ ap (λ l. take (i + length xs) l ++ (ys ++ drop (i + length xs + length ys) l)) p.out
      ∙ put_put old xs ys i p.room;
}

-- nothing written yet
pub put_none : (old : List ℕ) (i : ℕ) → i ≤ length old → Put old i [] old i
put_none old i h = record {
  room = omega arith;
  next = omega arith;
  out = sym (take-append-drop i old) ∙ ap (λ m. take i old ++ drop m old) (omega arith);
}
