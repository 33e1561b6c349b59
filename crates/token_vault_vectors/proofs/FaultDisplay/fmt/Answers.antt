-- The text of a fault is its sentence.
use Rattle.token_vault_vectors.proofs.FaultDisplay.fmt.Goals.{in-HeadCut, in-ImageTooLong, in-JournalTooLong, in-HeadNotZero, in-ImageCut, in-JournalCut, in-CallCut, in-Kind, in-CallNotZero, in-Needless, in-RecordTooLong, in-EventsTooLong, in-RecordCut}
use Rattle.std.proofs.Common.{◌≡◌, refl}
use Rattle.std.proofs.Output.{has_written_of_eq}
use Rattle.token_vault_vectors.specs.Faults.{sentences, fault_text}
use Rattle.token_vault_vectors.specs.Numbers.{number_of}
use Rattle.token_vault_vectors.proofs.FaultDisplay.fmt.Goals as goal

pub returns-clause-writes : goal.returns-clause-writes
unfolding sentences fault_text
returns-clause-writes g c = λ plain ok.
    let text : c.match-self.write_str.now ≡ fault_text (number_of c.args.self.now) = elim c.match-self.branch [
      | in-HeadCut w ↦ rw (w.write_str-is, w.in-HeadCut.is) refl
      | in-ImageTooLong w ↦ rw (w.write_str-is, w.in-ImageTooLong.is) refl
      | in-JournalTooLong w ↦ rw (w.write_str-is, w.in-JournalTooLong.is) refl
      | in-HeadNotZero w ↦ rw (w.write_str-is, w.in-HeadNotZero.is) refl
      | in-ImageCut w ↦ rw (w.write_str-is, w.in-ImageCut.is) refl
      | in-JournalCut w ↦ rw (w.write_str-is, w.in-JournalCut.is) refl
      | in-CallCut w ↦ rw (w.write_str-is, w.in-CallCut.is) refl
      | in-Kind w ↦ rw (w.write_str-is, w.in-Kind.is) refl
      | in-CallNotZero w ↦ rw (w.write_str-is, w.in-CallNotZero.is) refl
      | in-Needless w ↦ rw (w.write_str-is, w.in-Needless.is) refl
      | in-RecordTooLong w ↦ rw (w.write_str-is, w.in-RecordTooLong.is) refl
      | in-EventsTooLong w ↦ rw (w.write_str-is, w.in-EventsTooLong.is) refl
      | in-RecordCut w ↦ rw (w.write_str-is, w.in-RecordCut.is) refl
    ] in
    has_written_of_eq _ _ _ _ _ text (c.write_str.ensures.writes plain ok)
