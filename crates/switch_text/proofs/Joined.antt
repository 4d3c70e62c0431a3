-- A text that grows piece by piece.
use Rattle.std.proofs.Common.{◌≡◌, List, ℕ, ◌++◌, append_assoc}

pub joined_3 : (s t1 t2 t3 a b c : List ℕ) → t1 ≡ s ++ a → t2 ≡ t1 ++ b → t3 ≡ t2 ++ c → t3 ≡ s ++ (a ++ b ++ c)
joined_3 s t1 t2 t3 a b c p1 p2 p3 = rw (p3, p2, p1) (simp append_assoc)

pub joined_4 : (s t1 t2 t3 t4 a b c d : List ℕ) → t1 ≡ s ++ a → t2 ≡ t1 ++ b → t3 ≡ t2 ++ c → t4 ≡ t3 ++ d → t4 ≡ s ++ (a ++ b ++ c ++ d)
joined_4 s t1 t2 t3 t4 a b c d p1 p2 p3 p4 = rw (p4, p3, p2, p1) (simp append_assoc)

-- from an empty line
pub joined_8 : (t1 t2 t3 t4 t5 t6 t7 t8 a b c d e f g h line : List ℕ) → t1 ≡ a → t2 ≡ t1 ++ b → t3 ≡ t2 ++ c → t4 ≡ t3 ++ d → t5 ≡ t4 ++ e → t6 ≡ t5 ++ f → t7 ≡ t6 ++ g → t8 ≡ t7 ++ h
    → (a ++ b ++ c ++ d ++ e ++ f ++ g) ++ h ≡ line → t8 ≡ line
joined_8 t1 t2 t3 t4 t5 t6 t7 t8 a b c d e f g h line p1 p2 p3 p4 p5 p6 p7 p8 whole = rw (p8, p7, p6, p5, p4, p3, p2, p1) whole

pub joined_2 : (s t1 t2 a b : List ℕ) → t1 ≡ s ++ a → t2 ≡ t1 ++ b → t2 ≡ s ++ (a ++ b)
joined_2 s t1 t2 a b p1 p2 = rw (p2, p1) (simp append_assoc)
