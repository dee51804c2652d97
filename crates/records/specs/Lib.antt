-- What laying out a record promises.
pub mod Laid
