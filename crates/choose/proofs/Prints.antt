-- The text of what was read is the text of the whole files, since no byte behind the buffers matters.
use Prim.Native.Nat.{ℕ, ◌*◌}
use mathlib.Core.Path.{◌≡◌, ◌∙◌}
use mathlib.Core.List.{List}
use lib.ListN.{length, take}
use Rattle.sheet.specs.Sheet.{longest}
use Rattle.report.specs.Report.{most_words, report}
use Rattle.report.proofs.Reports.{report_first}
use Rattle.choose.specs.Printing.{FilesRead, Printed}
use Rattle.choose.specs.declared.reading.Contents.{Contents}

module _ {n m : ℕ} (sheet : Contents n) (words : Contents m) (s : length sheet.bytes ≡ 4 * longest) (w : length words.bytes ≡ 8 * most_words) where
  whole : (sheet_bin words_bin : List ℕ) → FilesRead sheet_bin words_bin sheet words
      → report (take sheet.size sheet.bytes) sheet.size (take words.size words.bytes) ≡ report sheet_bin (length sheet_bin) words_bin
  whole sheet_bin words_bin r = rw (r.sheet_read, r.words_read, r.counted, s, w) (report_first sheet_bin (length sheet_bin) words_bin)

  pub printed : {text : List ℕ} → text ≡ report (take sheet.size sheet.bytes) sheet.size (take words.size words.bytes) → Printed text sheet words
  printed e = record { of_bytes = e; of_files = λ sheet_bin words_bin r. e ∙ whole sheet_bin words_bin r }
