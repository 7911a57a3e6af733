-- The digits, and the byte behind them.
use Rattle.std.proofs.Common.{refl, ap, List, ℕ, [], ◌∷◌, ◌++◌}
use Rattle.text.proofs.Puts.{puts_both}
use Rattle.gerber_write.proofs.sink.PenSink.number.Goals as goal

pub returns : goal.returns
returns c =
    record {
      put =
          puts_both
          (record { joined = ap (λ (l : List ℕ). l ++ c.args.end ∷ []) c.digits_of-digits.ensures.bytes; fits = c.requires })
          c.put_bytes-next.ensures c.put_byte-self.ensures;
      same = refl;
    }
