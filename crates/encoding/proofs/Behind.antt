-- Writing into what stands behind a place. Assumes nothing.
use Rattle.std.proofs.Common.{◌≡◌, ℕ, ◌+◌, ◌-◌, ◌≤◌, List, ◌++◌, length, take, drop, ap, ◌∙◌, append-nil, arith, length-append, length-drop, drop-drop}
use Rattle.std.proofs.lemmas.List.{take_all, drop_all}
use borrow.Rule.Slice.PartMut.{put_mid}
use Rattle.writing.specs.Puts.{Put}
use Rattle.writing.proofs.Putting.{put_copied}

-- the part from a place on
pub part_is : (out : List ℕ) (n : ℕ) → take (length out - n) (drop n out) ≡ drop n out
part_is out n = take_all (length out - n) (drop n out) (omega (arith, length-drop n out))

-- what is written at the front of that part is written at the place
pub put_behind : {mid part ys : List ℕ} {n k : ℕ} → n ≤ length mid → Put (take (length mid - n) (drop n mid)) 0 ys part k → Put mid n ys (put_mid n (length mid - n) mid part) (n + k)
put_behind {mid} {part} {ys} {n} {k} h p =
    let x = part_is mid n in
    let z : 0 + length ys ≡ length ys = omega arith in
    let rest = drop (length ys) (drop n mid) in
    let src = ys ++ rest in
    let e : part ≡ src = p.out ∙ (λ i. ys ++ drop (z i) (x i)) in
    let short : length ys ≤ length mid - n = omega (arith, p.room, ap length x, length-drop n mid) in
    let long : length mid - n ≡ length src = omega (arith, length-append ys rest, length-drop (length ys) (drop n mid), length-drop n mid, short) in
    record {
      room = omega (arith, short, h);
      next = omega (arith, p.next);
      out =
          put_copied mid part src n (length mid - n) e long
          ∙ ap (λ l. take n mid ++ (src ++ l)) (drop_all (n + length src) mid (omega (arith, long, h)))
          ∙ ap (λ l. take n mid ++ l) (append-nil src)
          ∙ ap (λ l. take n mid ++ (ys ++ l)) (drop-drop (length ys) n mid);
    }
