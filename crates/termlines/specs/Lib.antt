-- What the lines of terms leave in a table and its lists.
-- TermRead, TermsRead: the lines of terms; TermsRoom, TermsGiven: what is promised for areas of any lengths
pub mod Terms
