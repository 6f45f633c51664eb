-- What is printed of what was read.
use Rattle.std.specs.Prelude.{ℕ, ◌≡◌, List, length, take}
use Rattle.report.specs.Report.{report}
use Rattle.choose.specs.declared.reading.Contents.{Contents}

module _ {n m : ℕ} where
  -- the content of sheet.bin and words.bin was read into both buffers, as many bytes as fit, and all bytes of the first were counted
  pub record FilesRead (sheet_bin words_bin : List ℕ) (sheet : Contents n) (words : Contents m) : Type 0 where
    pub counted : sheet.size ≡ length sheet_bin
    pub sheet_read : take sheet.size sheet.bytes ≡ take (length sheet.bytes) sheet_bin
    pub words_read : take words.size words.bytes ≡ take (length words.bytes) words_bin

  -- the text of what was read into both buffers, and so of the whole content of both files, however long, if that was read
  pub record Printed (text : List ℕ) (sheet : Contents n) (words : Contents m) : Type 0 where
    pub of_bytes : text ≡ report (take sheet.size sheet.bytes) sheet.size (take words.size words.bytes)
    pub of_files : (sheet_bin words_bin : List ℕ) → FilesRead sheet_bin words_bin sheet words → text ≡ report sheet_bin (length sheet_bin) words_bin
