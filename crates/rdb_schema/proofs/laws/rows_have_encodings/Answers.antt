use Rattle.std.proofs.Common.{refl}
use Rattle.rdb_schema.proofs.EncodingLengths.{length-encoding, fits-row, row_fits_of}
use Rattle.rdb_schema.proofs.laws.rows_have_encodings.Goals as goal

pub returns : goal.returns
returns c = record {
  fit = row_fits_of;
  only = fits-row;
  encode = λ schema class row holds proper. record { fits = row_fits_of schema class row holds; proper = proper; bytes_are = refl };
  as_long = length-encoding;
}
