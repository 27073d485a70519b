mod RidLemmas
mod WriterLemmas
mod ReaderLemmas
