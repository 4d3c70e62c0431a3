use Rattle.packed_numbers.proofs.bytes.+put_front.Given as goal

abbrev pub decreases-put_front : goal.decreases-put_front
decreases-put_front l = l.part
